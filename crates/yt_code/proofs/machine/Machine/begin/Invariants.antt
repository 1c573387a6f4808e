use Rattle.std.proofs.Common.{◌≡◌, ◌-◌, [], ◌++◌, length, replicate}
use Rattle.std.specs.Prelude.{pos}
use Rattle.yt_code.proofs.machine.Machine.begin.Given as goal

abbrev pub invariant-loop : goal.invariant-loop
invariant-loop l = record {
  place : l.self-inside.place ≡ 0;
  spent : l.self-inside.spent ≡ 0;
  stack : l.self-inside.stack ≡ [];
  loops : l.self-inside.loops ≡ [];
  so_far : l.self-inside.locals.items ≡ l.msg ++ replicate (l.counter - length l.msg) (pos 0);
}
