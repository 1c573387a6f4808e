use Rattle.std.proofs.Common.{◌≡◌, ◌≤◌, ◌<◌, length, arith, subst, List}
use Rattle.std.proofs.lemmas.Grind.{common_steps}
use Rattle.std.specs.List.{insert, Contains}
use Rattle.std.specs.Vec.{vec_capacity}
use Rattle.yt_chan.specs.declared.heads.Head.{Head}
use Rattle.yt_chan.proofs.HeadList.{put_falls, put_has, has_there, also_apart, room_for}
use Rattle.yt_chan.proofs.heads.Heads.add.Goals as goal

pub returns-in_default : goal.returns-in_default
returns-in_default c = has_there c.args.self.now c.args.head (let C : List Head → Type 0 = λ ys. Contains ys c.args.head in subst C c.self.view_is (subst C c.deref.ensures.value c.in_default.ensures))

pub invariant_of-self : goal.invariant_of-self
invariant_of-self c =
    let xs = c.self.inside.heads.items in
    let ys = c.deref.result.now in
    let p = c.in-Some.place in
    let e = c.args.head in
    let one = rw (← c.self.view_is) at c.requires.one in
    let few : length xs < 82 = room_for xs ys p e c.deref.ensures.value c.self.invariant.0 c.self.invariant.1 c.in-Some.ensures c.requires.within one in
    let cap = c.self.invariant.2 in
    let is : c.insert.new.self.items ≡ insert xs p e = grind (arith, common_steps) in
    let room : 82 ≤ vec_capacity c.insert.new.self = grind (arith, common_steps) in (
      put_falls xs ys c.insert.new.self.items p e c.deref.ensures.value is c.self.invariant.0 c.in-Some.ensures,
      also_apart xs c.insert.new.self.items e (put_has xs ys c.insert.new.self.items p e c.deref.ensures.value is c.in-Some.ensures) c.self.invariant.1 c.requires.within one,
      room,
    )

pub returns : goal.returns
returns c =
    let xs = c.self.inside.heads.items in
    let ys = c.deref.result.now in
    let p = c.in-Some.place in
    let e = c.args.head in
    let one = rw (← c.self.view_is) at c.requires.one in
    let few : length xs < 82 = room_for xs ys p e c.deref.ensures.value c.self.invariant.0 c.self.invariant.1 c.in-Some.ensures c.requires.within one in
    let cap = c.self.invariant.2 in
    let is : c.insert.new.self.items ≡ insert xs p e = grind (arith, common_steps) in
    rw (← c.self.view_is) (put_has xs ys c.insert.new.self.items p e c.deref.ensures.value is c.in-Some.ensures)
