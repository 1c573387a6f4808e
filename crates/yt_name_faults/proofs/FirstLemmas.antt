-- Which fault decides of several lists.
use Rattle.std.proofs.Common.{◌≡◌, List, [], ◌∷◌, ◌++◌, Option, Some, None, is_some, true, true≢false, refl, sym, ap, ◌∙◌}
use Rattle.yt_name_faults.specs.declared.fault.NameFault.{NameFault}
use Rattle.yt_name_faults.specs.First.{lesser, least_with, first_fault}

-- one list and then another
pub least_with-append : (a b : List NameFault) (m : Option NameFault) → least_with (a ++ b) m ≡ least_with b (least_with a m)
unfolding least_with
least_with-append [] b m = refl
least_with-append (f ∷ fs) b m = least_with-append fs b (Some (lesser f m))

-- the same, for what two steps leave
pub both : (a b : List NameFault) (old mid new : Option NameFault) → mid ≡ least_with a old → new ≡ least_with b mid → new ≡ least_with (a ++ b) old
both a b old mid new p q = q ∙ ap (least_with b) p ∙ sym (least_with-append a b old)

-- no fault changes nothing
pub none_noted : (old : Option NameFault) → least_with [] old ≡ old
unfolding least_with
none_noted old = refl

-- a turn of a loop over things with faults, where `front` are the faults of what is left before it and `rest` after it
pub next : (a rest front : List NameFault) (old new end : Option NameFault) → front ≡ a ++ rest → new ≡ least_with a old → least_with front old ≡ end → least_with rest new ≡ end
next a rest front old new end e p h = ap (least_with rest) p ∙ sym (least_with-append a rest old) ∙ ap (λ l. least_with l old) (sym e) ∙ h

-- the end of such a loop
pub at_end : (rest : List NameFault) (new end : Option NameFault) → rest ≡ [] → least_with rest new ≡ end → new ≡ end
at_end rest new end e h = sym (none_noted new) ∙ ap (λ l. least_with l new) (sym e) ∙ h

-- one fault that is there stays or gives way to another
stays : (fs : List NameFault) (f : NameFault) → is_some (least_with fs (Some f)) ≡ true
unfolding least_with
stays [] f = refl
stays (g ∷ gs) f = stays gs (lesser g (Some f))

-- where none decides, there's none
pub no_fault : (fs : List NameFault) → first_fault fs ≡ None → fs ≡ []
unfolding least_with
no_fault [] e = refl
no_fault (f ∷ fs) e = absurd (true≢false (sym (stays fs (lesser f None)) ∙ ap is_some e))
