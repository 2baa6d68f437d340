-- The closing that a record shows which keeps the rules: its contract, its points, six slot totals. Assumes nothing.
use mathlib.Core.Path.{◌≡◌, refl, sym, ap, ◌∙◌}
use mathlib.Core.Bool.{Bool, true, false, cond}
use mathlib.Core.List.{List, [], ◌∷◌}
use Prim.Native.Nat.{ℕ, zero, suc, ◌+◌, ◌*◌, ◌-◌, ◌≤◌, min}
use native.Mathlib.Nat.{suc-mul}
use native.Mathlib.Omega.{arith}
use lib.IntN.{ℤ, pos, negsuc, neg_ℤ, nat_abs, ◌+ℤ◌, ◌-ℤ◌}
use lib.ListN.{length, get_or}
use Rattle.std.specs.Prelude.{int_lt}
use Rattle.std.proofs.lemmas.Bool.{and_parts}
use Rattle.std.proofs.lemmas.Int.{ints}
use Rattle.numbers.specs.Slots.{window_slots}
use Rattle.integers.specs.Integers.{or_zero, sum_ℤ}
use Rattle.heads.specs.Heads.{is_contract, counts}
use Rattle.figures.specs.Figures.{shortfall_of, expected_of, kept_of, is_bid, figures_of}
use Rattle.records.specs.Rules.{from_zero, is_allowed}
use Rattle.records.specs.declared.Record.{Record}
use Rattle.records.proofs.Keeping.{Kept, no_sign, missed, reached}
use Rattle.record_claims.proofs.Closings.{words}

-- ---- the contract

pub record Shown (r : Record) : Type 0 where
  pub contract : ℕ
  pub allowed : is_contract contract ≡ true
  pub shortfall : pos (shortfall_of contract r.settled) ≡ r.shortfall
  pub kept : pos (kept_of contract r.settled) ≡ r.kept
  pub surplus : pos (expected_of r.settled - kept_of contract r.settled) ≡ r.surplus

-- an allowed contract as a number without a sign
allowed_number : (z : ℤ) → is_allowed z ≡ true → (z ≡ pos (or_zero z)) × (is_contract (or_zero z) ≡ true)
allowed_number z e = let p = and_parts (from_zero z) (is_contract (or_zero z)) e in (no_sign z p.0, p.1)

lacks : (c : ℕ) (s h : ℤ) → s +ℤ h ≡ pos c → h ≡ pos (or_zero h) → pos (shortfall_of c s) ≡ h
lacks c s h e k = let d : pos c -ℤ s ≡ h = omega (arith, ints, e) in ap (λ z. pos (or_zero z)) d ∙ sym k

below : (c : ℕ) (s h : ℤ) → s +ℤ h ≡ pos c → int_lt (pos 0) h ≡ true → expected_of s ≤ c
below c (pos n) (pos m) e t = omega (arith, ints, e)
below c (pos n) (negsuc m) e t = omega (arith, ints, e)
below c (negsuc n) h e t = omega arith

enough : (c : ℕ) (s : ℤ) → s ≡ pos (or_zero s) → c ≤ or_zero s → shortfall_of c s ≡ 0
enough c s e h = go (pos c -ℤ s) refl
  where
    go : (z : ℤ) → pos c -ℤ s ≡ z → or_zero z ≡ 0
    go (pos m) d = omega (arith, ints, d, e, h)
    go (negsuc m) d = refl

module _ (r : Record) (k : Kept counts r) where
  by_missed : int_lt (pos 0) r.shortfall ≡ true → Shown r
  by_missed t =
      let m = missed counts r k t in
      let a = allowed_number (r.settled +ℤ r.shortfall) m.1 in
      let c = or_zero (r.settled +ℤ r.shortfall) in
      let least : expected_of r.settled ≤ c = below c r.settled r.shortfall a.0 t in
      let all : kept_of c r.settled ≡ expected_of r.settled = omega (arith, least) in
      let none : expected_of r.settled - kept_of c r.settled ≡ 0 = omega (arith, all) in
      record {
        contract = c;
        allowed = a.1;
        shortfall = lacks c r.settled r.shortfall a.0 k.shortfall;
        kept = ap pos all ∙ omega (arith, ints, k.split, k.expected, m.0);
        surplus = ap pos none ∙ sym m.0;
      }

  by_reached : int_lt (pos 0) r.shortfall ≡ false → Shown r
  by_reached t =
      let q = reached counts r k t in
      let a = allowed_number r.kept q.2 in
      let c = or_zero r.kept in
      let s = no_sign r.settled q.1 in
      let sum : c + or_zero r.surplus ≡ expected_of r.settled = omega (arith, ints, k.split, k.expected, k.kept, k.surplus) in
      let contract : kept_of c r.settled ≡ c = omega (arith, sum) in
      let rest : expected_of r.settled - kept_of c r.settled ≡ or_zero r.surplus = omega (arith, sum, contract) in
      record {
        contract = c;
        allowed = a.1;
        shortfall = ap pos (enough c r.settled s (omega (arith, sum))) ∙ sym q.0;
        kept = ap pos contract ∙ sym k.kept;
        surplus = ap pos rest ∙ sym k.surplus;
      }

  pub shown : Shown r
  shown = go (int_lt (pos 0) r.shortfall) refl
    where
      go : (t : Bool) → int_lt (pos 0) r.shortfall ≡ t → Shown r
      go true t = by_missed t
      go false t = by_reached t

  -- the figures with that contract have the record's words
  pub figures_shown : (s : Shown r) (totals : List ℤ) → sum_ℤ totals ≡ r.total → r ≡ words (figures_of s.contract totals (or_zero r.points))
  unfolding figures_of
  figures_shown s totals total =
      let bid : pos (cond (is_bid (expected_of r.settled)) 1 0) ≡ r.bid = ap (λ n. pos (cond (is_bid n) 1 0)) (sym (ap or_zero k.expected)) ∙ sym k.bid in
      rw (total, sym k.settled, s.shortfall, s.kept, s.surplus, bid, sym k.expected, sym k.points)

-- ---- six slot totals

-- a number in n parts, none beyond a limit: as much as fits into each, one after the other
unfoldable pub split : (ℕ → ℤ) → ℕ → ℕ → ℕ → List ℤ
split sign limit zero m = []
split sign limit (suc n) m = sign (min m limit) ∷ split sign limit n (m - limit)

module _ (sign : ℕ → ℤ) (limit : ℕ) where
  split_length : (n m : ℕ) → length (split sign limit n m) ≡ n
  unfolding split
  split_length zero m = refl
  split_length (suc n) m = ap suc (split_length n (m - limit))

  split_sum : sign 0 ≡ pos 0 → ((a b : ℕ) → sign a +ℤ sign b ≡ sign (a + b)) → (n m : ℕ) → m ≤ n * limit → sum_ℤ (split sign limit n m) ≡ sign m
  unfolding split sum_ℤ
  split_sum z add zero m h = let e : m ≡ 0 = omega (arith, h) in rw (e, z)
  split_sum z add (suc n) m h =
      let more : suc n * limit ≡ limit + n * limit = omega (arith, suc-mul n limit) in
      let e : min m limit + (m - limit) ≡ m = omega arith in
      rw (split_sum z add n (m - limit) (omega (arith, more, h)), add (min m limit) (m - limit), e)

  split_small : ((m : ℕ) → nat_abs (sign m) ≡ m) → (n m i : ℕ) → nat_abs (get_or (split sign limit n m) i (pos 0)) ≤ limit
  unfolding split
  split_small size zero m i = omega arith
  split_small size (suc n) m zero = rw size (omega arith)
  split_small size (suc n) m (suc i) = split_small size n (m - limit) i

-- six of them that make a total
pub record Six (limit : ℕ) (total : ℤ) : Type 0 where
  pub totals : List ℤ
  pub six : length totals ≡ window_slots
  pub small : (i : ℕ) → nat_abs (get_or totals i (pos 0)) ≤ limit
  pub sum : sum_ℤ totals ≡ total

minus : ℕ → ℤ
minus m = neg_ℤ (pos m)

minus_add : (a b : ℕ) → minus a +ℤ minus b ≡ minus (a + b)
unfolding minus
minus_add a b = omega (arith, ints)

minus_size : (m : ℕ) → nat_abs (minus m) ≡ m
unfolding minus
minus_size m = omega (arith, ints)

pub six_of : (limit : ℕ) (total : ℤ) → nat_abs total ≤ window_slots * limit → Six limit total
unfolding minus
six_of limit (pos n) h =
    record { totals = split pos limit 6 n; six = split_length pos limit 6 n; small = split_small pos limit (λ m. refl) 6 n; sum = split_sum pos limit refl (λ a b. refl) 6 n h }
six_of limit (negsuc n) h =
    record {
      totals = split minus limit 6 (suc n);
      six = split_length minus limit 6 (suc n);
      small = split_small minus limit minus_size 6 (suc n);
      sum = split_sum minus limit refl minus_add 6 (suc n) h;
    }
