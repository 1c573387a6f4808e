-- The limits of channels.
use Rattle.std.specs.Prelude.{ℕ, ◌+◌}
use Rattle.yt_log.specs.Limits.{most_arrival}
use Rattle.yt_chan.specs.declared.limits.TheConstants.{MOST_OUTPUTS, MOST_OUTS, MOST_PORTS, MOST_WIDTH}

-- how many ports and outputs a `Channels` has at most
abbrev pub most_ports : ℕ
most_ports = MOST_PORTS

abbrev pub most_outputs : ℕ
most_outputs = MOST_OUTPUTS

-- how many outs a port has at most, and how many numbers a message
abbrev pub most_outs : ℕ
most_outs = MOST_OUTS

abbrev pub most_width : ℕ
most_width = MOST_WIDTH

-- how many messages a job sends on a wire at most, and of how many jobs one passes its messages on
abbrev pub most_sends : ℕ
most_sends = 64

abbrev pub most_every : ℕ
most_every = 1000

-- the longest period of a wire's port and the longest gap between two messages of a job, in ticks
abbrev pub most_period : ℕ
most_period = 1000000

abbrev pub most_gap : ℕ
most_gap = 1000000000

-- the last tick at which the first message of a job is due: a period after the last at which the job may arrive
abbrev pub most_base : ℕ
most_base = most_arrival + most_period

-- how many targets there are at most, with those of number 0
abbrev pub most_targets : ℕ
most_targets = most_ports + 1 + most_outputs + 1
