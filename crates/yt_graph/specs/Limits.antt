-- The limits of a graph: the greatest count of each thing, and the greatest number in each place.
use Rattle.std.specs.Prelude.{ℕ, ◌+◌}

-- bytes of a name
abbrev pub most_name_bytes : ℕ
most_name_bytes = 32

abbrev pub most_inputs : ℕ
most_inputs = 16

abbrev pub most_outputs : ℕ
most_outputs = 16

-- resources that are declared
abbrev pub most_resources : ℕ
most_resources = 32

abbrev pub most_processes : ℕ
most_processes = 64

-- resources, with those that processes are
abbrev pub most_groups : ℕ
most_groups = most_resources + most_processes

-- ports and variables of all processes
abbrev pub most_ports : ℕ
most_ports = 64

abbrev pub most_vars : ℕ
most_vars = 256

-- outs of a port
abbrev pub most_outs : ℕ
most_outs = 8

-- locals of a handler, parameters among them
abbrev pub most_locals : ℕ
most_locals = 16

-- numbers of a message
abbrev pub most_width : ℕ
most_width = 8

-- ticks from one message of an input to the next
abbrev pub most_period : ℕ
most_period = 1000000

-- the number behind `every`: of how many jobs one passes its messages on
abbrev pub most_every : ℕ
most_every = 1000

-- turns of a `repeat`
abbrev pub most_turns : ℕ
most_turns = 10000

-- an operator: its arguments, ticks and code, each of which is at least 1
abbrev pub most_op_args : ℕ
most_op_args = 2

abbrev pub most_op_ticks : ℕ
most_op_ticks = 1000

abbrev pub most_op_code : ℕ
most_op_code = 5

-- depths
abbrev pub most_expr_depth : ℕ
most_expr_depth = 32

abbrev pub most_block_depth : ℕ
most_block_depth = 8

-- ticks of handling one message
abbrev pub most_cost : ℕ
most_cost = 1000000
