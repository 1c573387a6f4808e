-- As many wires as there may be, each at its limits, by which a test of channels goes.
use Rattle.std.specs.Prelude.{ℕ, ◌+◌, ◌-◌, ◌/◌, ◌%◌, nat_lt, ◌&&◌, not, Bool, List, [], ◌∷◌, map, replicate, if◌then◌else◌}
use Rattle.std.specs.List.{range_with_len}
use Rattle.yt_chan.specs.declared.wire.Wire.{Wire}

-- as many ports as there may be, of messages as wide as there may be
abbrev pub wide_ports : List ℕ
wide_ports = replicate 64 8

-- a number alone, where a test holds
abbrev pub alone_where : Bool → ℕ → List ℕ
alone_where holds number = if holds then number ∷ [] else []

-- the wire at a place: each port has the wires of eight outs; the first 64 wires feed the ports, a wire each, and the next 16 the outputs
unfoldable pub wide_wire : ℕ → Wire
wide_wire k = record {
  port = k / 8 + 1;
  out = k % 8 + 1;
  width = 8;
  sends = 64;
  every = 1000;
  period = 1000000;
  gap = 15625000;
  ports = alone_where (nat_lt k 64) (k + 1);
  outputs = alone_where (not (nat_lt k 64) && nat_lt k 80) (k - 63);
}

-- so many of them
unfoldable pub wide_wires : ℕ → List Wire
wide_wires count = map wide_wire (range_with_len 0 count)
