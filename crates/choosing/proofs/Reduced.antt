-- What `reduce` gives of a list, whose closure acts as a function. Assumes nothing.
use mathlib.Core.List.{List, ◌∷◌, map-id}
use mathlib.Core.Path.{◌≡◌, refl, sym, ap, ◌∙◌}
use denote.Param.Members.{Mut, Called}
use Rattle.std.specs.Iterator.{Drains, DrainsIf, FoldTurn}
use Rattle.std.specs.List.{FoldsTo, fold}
use Rattle.std.specs.Prelude.{Option}
use Rattle.std.proofs.lemmas.Fn.{fold_same}
use Rattle.std.proofs.lemmas.Iterator.{YieldsList, items_from_drains}
use Rattle.std.proofs.lemmas.List.Sums.{fold_push}

pub reduced : {S A F : Type 0} {steps : S → Option A → S → Type 0} {g : Mut F (A × (A × Unit {0})) A} {s : S} {f : F} {y : A} (h : A → A → A) (all : List A)
    → ((a x b : A) (q : F) → Called g f (a, (x, tt)) b q → (b ≡ h a x) × (q ≡ f))
    → (x : A) × (xs : List A) × (q : F) × Drains steps s (x ∷ xs) × FoldsTo {P = F × A} (FoldTurn g) (f, x) xs (q, y)
    → YieldsList steps (λ x. x) s all
    → (first : A) × (others : List A) × (all ≡ first ∷ others) × (y ≡ fold h first others)
reduced {steps = steps} {g = g} {s = s} {f = f} {y = y} h all acts (first, others, q, drains, folds) road =
    let drained : DrainsIf steps (Unit {0}) s (first ∷ others) = (drains.1.0, drains.1.1, λ _. (drains.0, drains.1.2)) in
    let same = sym (map-id (first ∷ others)) ∙ items_from_drains (first ∷ others) drained road in
    let low = fold_same g (λ xs a. a ≡ fold h first xs) f (λ xs a x b t e k. let act = acts a x b t k in (act.0 ∙ ap (λ l. h l x) e ∙ sym (fold_push h first xs x), act.1)) others first y q refl folds in
    (first, others, sym same, low)
