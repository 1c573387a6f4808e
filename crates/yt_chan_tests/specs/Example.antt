-- Runs on a few wires, call by call, by which the tests of channels go.
use Rattle.std.specs.Prelude.{◌≡◌, ℕ, ◌+◌, ◌≤◌, ◌<◌, ◌==◌, nat_lt, ◌&&◌, ◌||◌, not, ℤ, Bool, true, false, List, [], ◌∷◌, ◌++◌, map, length, drop, if◌then◌else◌}
use Rattle.std.specs.List.{Contains, list_all, list_any}
use Rattle.yt_chan.specs.declared.wire.Wire.{Wire}
use Rattle.yt_chan.specs.declared.port.PortJob.{PortJob}
use Rattle.yt_chan.specs.declared.target.Arrived.{Arrived}
use Rattle.yt_chan.specs.declared.target.Arrived.TheVariants.{Port, Output}
use Rattle.yt_chan.specs.Pending.{Pending}
use Rattle.yt_chan.specs.State.{ChannelState, job_at, no_job, open_at, passed_over, waits_at}
use Rattle.yt_chan.specs.Wires.{feeds, wire_at, wire_of_out, wire_to}

-- three ports of one number a message
abbrev pub three_ports : List ℕ
three_ports = 1 ∷ 1 ∷ 1 ∷ []

-- a wire of out 1 of a port, whose jobs arrive 10 ticks apart
abbrev pub wire_of : ℕ → ℕ → ℕ → ℕ → List ℕ → List ℕ → Wire
wire_of port sends every gap ports outputs = record { port = port; out = 1; width = 1; sends = sends; every = every; period = 10; gap = gap; ports = ports; outputs = outputs }

-- such a wire of port 1
abbrev pub one_wire : ℕ → ℕ → ℕ → List ℕ → List ℕ → Wire
one_wire sends every gap ports outputs = wire_of 1 sends every gap ports outputs

-- two wires that go side by side
abbrev pub first_of_two : Wire
first_of_two = wire_of 1 1 1 10 (2 ∷ []) (1 ∷ [])

abbrev pub second_of_two : Wire
second_of_two = wire_of 2 1 1 10 (3 ∷ []) (2 ∷ [])

-- a wire is such a wire
pub record IsPlain (wire : Wire) : Type 0 where
  pub out : wire.out ≡ 1
  pub width : wire.width ≡ 1
  pub period : wire.period ≡ 10

-- what is known: the wires, the ports' jobs, what waits for each target, and what is open on the wire at each place
pub record Known : Type 0 where
  pub wires : List Wire
  pub job : ℕ → PortJob
  pub waits : Arrived → List Pending
  pub opens : ℕ → List (List ℤ)

-- a target is fed by one of these wires
abbrev pub is_fed_by : List Wire → Arrived → Bool
is_fed_by wires target = list_any (λ w. feeds w target) wires

-- what is known is so
pub record IsKnown (state : ChannelState) (known : Known) : Type 0 where
  pub widths : state.widths ≡ three_ports
  pub wires : state.wires ≡ known.wires
  pub plain : (wire : Wire) → Contains known.wires wire → IsPlain wire
  pub jobs : (port : ℕ) → job_at state port ≡ known.job port
  pub pending : (target : Arrived) → waits_at state target ≡ known.waits target
  pub unsent : (k : ℕ) → open_at state k ≡ known.opens k
  pub fed : (target : Arrived) → is_fed_by known.wires target ≡ false → known.waits target ≡ []

-- at the start
abbrev pub at_start : List Wire → Known
at_start wires = record { wires = wires; job = λ _. no_job; waits = λ _. []; opens = λ _. [] }

-- each message that waits on a wire passes a test
abbrev pub waits_on : (Pending → Bool) → Known → Wire → Bool
waits_on test known wire = list_all (λ n. list_all test (known.waits (Port n))) wire.ports && list_all (λ n. list_all test (known.waits (Output n))) wire.outputs

-- each message that waits passes a test
abbrev pub all_wait : (Pending → Bool) → Known → Bool
all_wait test known = list_all (waits_on test known) known.wires

-- the place of a port's wire, and that wire
abbrev pub place_of : Known → ℕ → ℕ
place_of known port = wire_of_out known.wires port 1

abbrev pub its_wire : Known → ℕ → Wire
its_wire known port = wire_at known.wires (place_of known port)

-- a message was put at a port
abbrev pub begun : Known → ℕ → Known
begun known port = record known { job = λ p. if p == port then record (known.job p) { in_handling = true } else known.job p }

-- a port's job sent these
abbrev pub sent : Known → ℕ → List ℤ → Known
sent known port values = record known { opens = λ k. if k == place_of known port then known.opens k ++ map (λ v. v ∷ []) values else known.opens k }

-- both
abbrev pub filled : Known → ℕ → List ℤ → Known
filled known port values = sent (begun known port) port values

-- a message can be put at a port, whose job sends so many, where those that wait on its wire come from the job of a number
pub record CanFill (known : Known) (port count number : ℕ) : Type 0 where
  pub there : (1 ≤ port) × (port ≤ 3)
  pub wired : place_of known port < length known.wires
  pub free : (known.job port).in_handling ≡ false
  pub room : length (known.opens (place_of known port)) + count ≤ (its_wire known port).sends
  pub one : waits_on (λ m. m.number == number) known (its_wire known port) ≡ true

-- a job in handling can send so many
pub record CanSend (known : Known) (port count number : ℕ) : Type 0 where
  pub wired : place_of known port < length known.wires
  pub handled : (known.job port).in_handling ≡ true
  pub room : length (known.opens (place_of known port)) + count ≤ (its_wire known port).sends
  pub one : waits_on (λ m. m.number == number) known (its_wire known port) ≡ true

-- a port's job was closed
abbrev pub closed : Known → ℕ → ℕ → ℕ → Known
closed known port number arrival = record known {
  job = λ p. if p == port then record { in_handling = false; number = number; arrival = arrival } else known.job p;
  waits = λ t. known.waits t ++ passed_over (wire_at known.wires (wire_to known.wires t)) (known.opens (wire_to known.wires t)) (record { task = port; number = number }) arrival;
  opens = λ k. if (wire_at known.wires k).port == port then [] else known.opens k;
}

-- a port's job can be closed
pub record CanClose (known : Known) (port number arrival : ℕ) : Type 0 where
  pub there : (1 ≤ port) × (port ≤ 3)
  pub handled : (known.job port).in_handling ≡ true
  pub next : number ≡ (known.job port).number + 1
  pub early : arrival ≤ 8000000
  pub apart : 0 < (known.job port).number → (known.job port).arrival + 10 ≤ arrival

-- two targets are one
abbrev pub same_target : Arrived → Arrived → Bool
same_target (Port a) (Port b) = a == b
same_target (Port a) (Output b) = false
same_target (Output a) (Port b) = false
same_target (Output a) (Output b) = a == b

-- a target is the port of a number
abbrev pub is_port : Arrived → ℕ → Bool
is_port (Port n) p = p == n
is_port (Output n) p = false

-- the next message of a target was placed there
abbrev pub delivered : Known → Arrived → Known
delivered known target = record known {
  job = λ p. if is_port target p then record (known.job p) { in_handling = true } else known.job p;
  waits = λ t. if same_target t target then drop 1 (known.waits t) else known.waits t;
}

-- the next message can be placed: none is late, and no port is in handling for which a message is due
pub record CanDeliver (known : Known) (now : ℕ) : Type 0 where
  pub late : all_wait (λ m. not (nat_lt m.time now)) known ≡ true
  pub free : list_all (λ w. list_all (λ n. list_all (λ m. nat_lt now m.time) (known.waits (Port n)) || not (known.job n).in_handling) w.ports) known.wires ≡ true
