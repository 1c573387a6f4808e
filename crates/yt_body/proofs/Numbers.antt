-- Lists that are gone over from the front.
use Rattle.std.proofs.Common.{◌≡◌, ℕ, ◌+◌, ◌≤◌, Bool, cond, List, [], ◌∷◌, ◌++◌, drop, length, slice_get, Some, sym, ap, refl, ◌∙◌, append-nil}
use Rattle.std.proofs.lemmas.List.{append_assoc, drop_all}
use Rattle.yt_chan.specs.declared.wire.Wire.{Wire}
use Rattle.yt_graph.specs.declared.port.OutHead.{OutHead}
use Rattle.yt_graph.specs.Picture.{GraphTree, PortTree}
use Rattle.yt_list.proofs.Lemmas.{drop_at}
use Rattle.yt_body.specs.Wiring.{numbers_where, wire_of, wires_of_outs, wires_of_ports}

-- one more item is gone over
more : {X Y : Type 0} (made : ℕ → List X → List Y) (here : List Y) (xs : List X) (k : ℕ) (x : X) (done next all : List Y) →
    made (k + 1) (x ∷ drop (k + 1) xs) ≡ here ++ made (k + 1 + 1) (drop (k + 1) xs) → slice_get xs k ≡ Some x → next ≡ done ++ here →
    done ++ made (k + 1) (drop k xs) ≡ all → next ++ made (k + 1 + 1) (drop (k + 1) xs) ≡ all
more {X} {Y} made here xs k x done next all is at new h =
    let rest = made (k + 1 + 1) (drop (k + 1) xs) in
    ap (λ (l : List Y). l ++ rest) new
    ∙ append_assoc done here rest
    ∙ ap (λ (l : List Y). done ++ l) (sym is)
    ∙ ap (λ (l : List X). done ++ made (k + 1) l) (sym (drop_at xs k x at))
    ∙ h

-- all items are gone over
all_over : {X Y : Type 0} (made : ℕ → List X → List Y) (xs : List X) (k : ℕ) (done all : List Y) → made (k + 1) [] ≡ [] → length xs ≤ k → done ++ made (k + 1) (drop k xs) ≡ all → done ≡ all
all_over {X} {Y} made xs k done all none le h =
    sym (append-nil done) ∙ ap (λ (l : List Y). done ++ l) (sym none) ∙ ap (λ (l : List X). done ++ made (k + 1) l) (sym (drop_all k xs le)) ∙ h

pub numbers_more : {X : Type 0} (test : X → Bool) (xs : List X) (k : ℕ) (x : X) (done next all : List ℕ) → slice_get xs k ≡ Some x → next ≡ done ++ cond (test x) ((k + 1) ∷ []) [] →
    done ++ numbers_where test (k + 1) (drop k xs) ≡ all → next ++ numbers_where test (k + 1 + 1) (drop (k + 1) xs) ≡ all
numbers_more test xs k x done next all = more (numbers_where test) (cond (test x) ((k + 1) ∷ []) []) xs k x done next all refl

pub outs_more : (g : GraphTree) (port : ℕ) (p : PortTree) (k : ℕ) (head : OutHead) (w : Wire) (done next all : List Wire) → slice_get p.outs k ≡ Some head → w ≡ wire_of g port p (k + 1) head → next ≡ done ++ w ∷ [] →
    done ++ wires_of_outs g port p (k + 1) (drop k p.outs) ≡ all → next ++ wires_of_outs g port p (k + 1 + 1) (drop (k + 1) p.outs) ≡ all
outs_more g port p k head w done next all at is new =
    more (wires_of_outs g port p) (wire_of g port p (k + 1) head ∷ []) p.outs k head done next all refl at (new ∙ ap (λ (v : Wire). done ++ v ∷ []) is)

pub outs_over : (g : GraphTree) (port : ℕ) (p : PortTree) (k : ℕ) (done all : List Wire) → length p.outs ≤ k → done ++ wires_of_outs g port p (k + 1) (drop k p.outs) ≡ all → done ≡ all
outs_over g port p k done all = all_over (wires_of_outs g port p) p.outs k done all refl

pub ports_more : (g : GraphTree) (k : ℕ) (p : PortTree) (done next all : List Wire) → slice_get g.ports k ≡ Some p → next ≡ done ++ wires_of_outs g (k + 1) p 1 p.outs →
    done ++ wires_of_ports g (k + 1) (drop k g.ports) ≡ all → next ++ wires_of_ports g (k + 1 + 1) (drop (k + 1) g.ports) ≡ all
ports_more g k p done next all = more (wires_of_ports g) (wires_of_outs g (k + 1) p 1 p.outs) g.ports k p done next all refl

pub ports_over : (g : GraphTree) (k : ℕ) (done all : List Wire) → length g.ports ≤ k → done ++ wires_of_ports g (k + 1) (drop k g.ports) ≡ all → done ≡ all
ports_over g k done all = all_over (wires_of_ports g) g.ports k done all refl
