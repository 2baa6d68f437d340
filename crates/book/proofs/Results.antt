-- The result bytes: words of eight bytes, one after the other, byte by byte; the figures of an accepted closing fit them. Assumes nothing.
use mathlib.Core.Path.{◌≡◌, refl, sym, ap, ◌∙◌}
use mathlib.Core.Bool.{Bool, true, false}
use mathlib.Core.List.{List, [], ◌∷◌, ◌++◌}
use Prim.Native.Nat.{ℕ, suc, ◌+◌, ◌-◌, ◌*◌, ◌/◌, ◌%◌, ◌^◌, ◌<◌}
use native.Mathlib.Decide.{ℕ_discrete}
use native.Mathlib.Omega.{arith}
use borrow.Author.Tests.{ltb-true, ltb-false, le-ltb, ne_eqb}
use lib.Dec.{ltb}
use lib.IntN.{ℤ, pos, negsuc}
use lib.Signed.{mag}
use lib.ListN.{length, get_or, length-append, get_or-append}
use lib.Seq.{get_or-append-add}
use Rattle.numbers.specs.Lists.{gather}
use Rattle.integers.specs.Integers.{sum_ℤ, twos_complement}
use Rattle.numbers.specs.Words.{bytes_of}
use Rattle.figures.specs.Figures.{settled_of, shortfall_of, expected_of, figures_of}
use Rattle.ledger.specs.States.{slot_totals}
use Rattle.ledger.specs.Operations.{close_of}
use Rattle.figures.proofs.FigureSteps.{shortfall_above, shortfall_below}
use Rattle.ledger.proofs.Sound.{close_refusal, close_good}
use Rattle.figures.specs.declared.Figures.{Figures}
use Rattle.book.specs.Endings.{Ending, closed_after}

-- figures without a sign that fit a signed word
pub record SmallWords (f : Figures) : Type 0 where
  pub shortfall : f.shortfall < 2 ^ 63
  pub expected : f.expected < 2 ^ 63
  pub kept : f.kept < 2 ^ 63
  pub surplus : f.surplus < 2 ^ 63

-- words of eight bytes, one after the other: `result_bytes` is this of a result's eight
abbrev pub word_bytes : List ℤ → List ℕ
word_bytes words = gather (λ word. bytes_of 8 (twos_complement word)) words

abbrev word_of : ℤ → List ℕ
word_of word = bytes_of 8 (twos_complement word)

eight : (word : ℤ) → length (word_of word) ≡ 8
unfolding bytes_of
eight word = refl

pub words_length : (words : List ℤ) → length (word_bytes words) ≡ 8 * length words
unfolding gather
words_length [] = refl
words_length (word ∷ words) = length-append (word_of word) (word_bytes words) ∙ omega (arith, eight word, words_length words)

pub words_at : (words : List ℤ) (i : ℕ) → i < 8 * length words → get_or (word_bytes words) i 0 ≡ get_or (word_of (get_or words (i / 8) (pos 0))) (i % 8) 0
unfolding gather
words_at [] i h = absurd (omega arith)
words_at (word ∷ words) i h = go (ltb i 8) refl (words_at words (i - 8))
  where
    go : (t : Bool) → ltb i 8 ≡ t
        → (i - 8 < 8 * length words → get_or (word_bytes words) (i - 8) 0 ≡ get_or (word_of (get_or words ((i - 8) / 8) (pos 0))) ((i - 8) % 8) 0)
        → get_or (word_of word ++ word_bytes words) i 0 ≡ get_or (word_of (get_or (word ∷ words) (i / 8) (pos 0))) (i % 8) 0
    go true t rest =
        let k = ltb-true i 8 t in
        let q : i / 8 ≡ 0 = omega arith in
        let r : i % 8 ≡ i = omega arith in
        rw (q, r) (get_or-append (word_of word) (word_bytes words) 0 i (omega (arith, eight word)))
    go false t rest =
        let k = ltb-false i 8 t in
        let q : i / 8 ≡ suc ((i - 8) / 8) = omega arith in
        let r : i % 8 ≡ (i - 8) % 8 = omega arith in
        let e : i ≡ length (word_of word) + (i - 8) = omega (arith, eight word) in
        ap (λ (j : ℕ). get_or (word_of word ++ word_bytes words) j 0) e ∙ get_or-append-add (word_of word) (word_bytes words) (i - 8) 0
        ∙ rest (omega arith) ∙ rw (q, r)

-- ---- the figures of an accepted closing fit their words

settled_small : (contract : ℕ) (total : ℤ) → contract < 2 ^ 32 → mag total < 2 ^ 63
    → (expected_of (settled_of total) < 2 ^ 63) × (shortfall_of contract (settled_of total) < 2 ^ 63)
settled_small contract (pos n) h k = (omega arith, omega (arith, shortfall_above contract (pos (n / 3_000)) (le-ltb (n / 3_000) 0 (omega arith))))
settled_small contract (negsuc n) h k = (omega arith, omega (arith, shortfall_below contract (negsuc (n / 3_000)) refl))

pub figures_small : (contract : ℕ) (totals : List ℤ) (points : ℕ) → contract < 2 ^ 32 → mag (sum_ℤ totals) < 2 ^ 63
    → SmallWords (figures_of contract totals points)
unfolding figures_of
figures_small contract totals points h k =
    let s = settled_small contract (sum_ℤ totals) h k in
    record { shortfall = s.1; expected = s.0; kept = omega arith; surplus = omega arith }

-- of the closing after a reading
pub closed_small : (ending : Ending) → (closed_after ending).refusal ≡ 0 → ending.state.head.contract < 2 ^ 32
    → mag (closed_after ending).figures.total < 2 ^ 63 → SmallWords (closed_after ending).figures
unfolding figures_of sum_ℤ
closed_small ending e contract total = go (ℕ_discrete ending.refusal 0)
  where
    closes : (close_of ending.state).refusal ≡ 0 → mag (close_of ending.state).figures.total < 2 ^ 63 → SmallWords (close_of ending.state).figures
    closes e total =
        let is = close_good ending.state (sym (close_refusal ending.state) ∙ e) in
        rw is (figures_small ending.state.head.contract (slot_totals ending.state) ending.state.points contract (rw is at total))

    go : Dec (ending.refusal ≡ 0) → SmallWords (closed_after ending).figures
    go (yes z) = rw z (closes (rw z at e) (rw z at total))
    go (no n) = absurd (n (rw (ne_eqb _ _ n) at e))
