use Rattle.std.proofs.Common.{[], ◌∷◌, ◌++◌, sym, subst}
use Rattle.yt_fits.specs.Inside.Streams.{AreStreamsOf}
use Rattle.yt_fits.proofs.StreamLemmas.{join_lent, join_new, none_lent}
use Rattle.yt_fits.proofs.stream.join.Goals as goal

pub returns-in-Some-clause-streams : goal.returns-in-Some-clause-streams
returns-in-Some-clause-streams c = λ tasks are.
    join_lent tasks c.args.streams.now.items c.as_slice.result.now c.deref_mut.result.now c.args.task c.in-Some.place
    c.as_slice.ensures.value c.deref_mut.ensures.value c.requires.task c.in-Some.ensures.within c.in-Some.ensures.period c.in-Some.ensures.due are

pub returns-in-Some-clause-none : goal.returns-in-Some-clause-none
returns-in-Some-clause-none c = λ none.
    none_lent c.args.streams.now.items c.as_slice.result.now c.deref_mut.result.now c.args.task c.in-Some.place
    c.as_slice.ensures.value c.deref_mut.ensures.value c.in-Some.ensures.within none

pub returns-in-None-clause-streams : goal.returns-in-None-clause-streams
returns-in-None-clause-streams c = λ tasks are.
    subst (AreStreamsOf (tasks ++ c.args.task ∷ [])) (sym c.push.ensures.items)
    (join_new tasks c.args.streams.now.items c.args.task c.of.result c.requires.task (record { period = c.of.ensures.period; due = c.of.ensures.within }) c.of.ensures.cost are)
