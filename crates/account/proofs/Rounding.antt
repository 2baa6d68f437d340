-- Rounded results beside exact ones, for ANY list of quotients whose divisors go into the parts of a Wh: nothing here knows the kinds of
-- point. Assumes nothing.
use mathlib.Core.Path.{◌≡◌, refl, ap}
use mathlib.Core.Logic.{◌↔◌, ◌⊎◌, inl, inr}
use mathlib.Core.Bool.{Bool, true, false, not, ◌&&◌, ◌||◌}
use mathlib.Core.List.{List, [], ◌∷◌, map}
use Prim.Native.Nat.{ℕ, zero, suc, ◌+◌, ◌*◌, ◌-◌, ◌/◌, ◌%◌, ◌<◌, ◌≤◌}
use native.Mathlib.Nat.{div-add-mod, mul_comm, le_trans, le-add_right, mul-pos, mul-le-mul_right, le-mul_of_pos_right}
use native.Mathlib.Numerals.{one-add}
use native.Mathlib.Decide.{dec_lt}
use native.Mathlib.Omega.{arith}
use lib.Dec.{T}
use lib.IntN.{ℤ, pos, ◌+ℤ◌, ◌-ℤ◌, ◌*ℤ◌}
use lib.Signed.{◌≤ℤ◌, le_z, le_z_yes}
use lib.ListN.{length}
use mir.Facts.{eqb_yes}
use Rattle.numbers.specs.Lists.{any}
use Rattle.integers.specs.Integers.{floor_div, divides, or_zero, sum_ℤ}
use Rattle.integers.proofs.Differences.{by⊖, ⊖s}
use Rattle.integers.proofs.Floors.{rest, rest-<, rest_is, divides_rest}
use Rattle.results.specs.SlotResults.{Quotient, rounded}
use Rattle.figures.specs.Figures.{settled_of, shortfall_of}
use Rattle.numbers.proofs.Tests.{every, every_cons}

-- a quotient is whole
abbrev pub whole : Quotient → Bool
whole q = divides q.den q.num

-- the divisor goes into the parts of a Wh
abbrev pub goes_into : ℕ → Quotient → Bool
goes_into wh q = divides q.den (pos wh)

-- in parts, of which `wh` make one Wh
abbrev pub in_parts : ℕ → Quotient → ℤ
in_parts wh q = q.num *ℤ pos (wh / q.den)

-- ---- n quotients: the exact sum is the rounded one and some parts, fewer than a Wh for each

pub record Above (wh n : ℕ) (total exact : ℤ) (all_whole : Type 0) : Type 0 where
  pub parts : ℕ
  pub is : exact ≡ total *ℤ pos wh +ℤ pos parts
  pub most : parts + n ≤ n * wh
  pub none : (parts ≡ 0) ↔ all_whole

right_pos : (d m : ℕ) → 0 < d * m → 0 < m
right_pos d zero h = omega arith
right_pos d (suc m) h = omega arith

scale : (d m r : ℕ) (n s : ℤ) → n ≡ s *ℤ pos d +ℤ pos r → n *ℤ pos m ≡ s *ℤ pos (d * m) +ℤ pos (r * m)
scale d m r = by⊖ _ λ a a'. by⊖ _ λ b b'. simp ⊖s λ h. omega (arith, ap (◌* m) h)

one_above : (n : ℤ) (d m wh : ℕ) → d * m ≡ wh → 0 < wh → Above wh 1 (floor_div n d) (n *ℤ pos m) (T (divides d n))
one_above n d m wh g p =
    let pm : 0 < m = right_pos d m (rw g p) in
    let pd : 0 < d = right_pos m d (rw (mul_comm, g) p) in
    let w = divides_rest d n pd in
    record {
      parts = rest n d * m;
      is = rw g at (scale d m (rest n d) n (floor_div n d) (rest_is n d pd));
      most = omega (arith, mul-le-mul_right m (rest-< n d pd));
      none = (λ e. w.1 (omega (arith, le-mul_of_pos_right (rest n d) pm)), λ h. rw (w.0 h) (omega arith));
    }

add_above : {wh n k : ℕ} {t e u f : ℤ} {N M : Type 0} → Above wh n t e N → Above wh k u f M → Above wh (n + k) (t +ℤ u) (e +ℤ f) (N × M)
add_above {wh} {t} {e} {u} {f} a b = record {
  parts = a.parts + b.parts;
  is = go a.parts b.parts t e u f a.is b.is;
  most = omega arith;
  none = (λ z. (a.none.0 (omega arith), b.none.0 (omega arith)), λ w. omega (arith, a.none.1 w.0, b.none.1 w.1));
}
  where
    go : (x y : ℕ) (t e u f : ℤ) → e ≡ t *ℤ pos wh +ℤ pos x → f ≡ u *ℤ pos wh +ℤ pos y → e +ℤ f ≡ (t +ℤ u) *ℤ pos wh +ℤ pos (x + y)
    go x y = by⊖ _ λ a a'. by⊖ _ λ b b'. by⊖ _ λ c c'. by⊖ _ λ d d'. simp ⊖s (omega arith)

goes : (d wh : ℕ) → T (divides d (pos wh)) → d * (wh / d) ≡ wh
goes d wh t = let e : wh % d ≡ 0 = eqb_yes t in omega (arith, div-add-mod wh d)

pub all_above : (wh : ℕ) → 0 < wh → (qs : List Quotient) → T (every (goes_into wh) qs)
    → Above wh (length qs) (sum_ℤ (map rounded qs)) (sum_ℤ (map (in_parts wh) qs)) (T (every whole qs))
unfolding sum_ℤ any
all_above wh p [] g = record { parts = 0; is = simp ⊖s (omega arith); most = omega arith; none = (λ e. tt, λ w. refl) }
all_above wh p (q ∷ qs) g =
    let f = (every_cons (goes_into wh) q qs).0 g in
    let a = add_above (one_above q.num q.den (wh / q.den) wh (goes q.den wh f.0) p) (all_above wh p qs f.1) in
    let w = every_cons whole q qs in
    rw (← one-add) record { parts = a.parts; is = a.is; most = a.most; none = (λ e. w.1 (a.none.0 e), λ t. a.none.1 (w.0 t)) }

-- ---- the closing: contract c in kW; wh parts are one Wh of the total, 3 × wh a watt, 3,000 × wh a kW

shortfall_zero : (c : ℕ) (s : ℤ) → (pos c ≤ℤ s) ↔ (shortfall_of c s ≡ 0)
shortfall_zero c = by⊖ _ λ a a'. simp ⊖s (omega arith)

-- the exact shortfall is the printed one less what the roundings lost, but not below 0
exact_is : (wh c r x : ℕ) (s t e : ℤ) → t ≡ s *ℤ pos 3_000 +ℤ pos r → e ≡ t *ℤ pos wh +ℤ pos x
    → or_zero (pos (c * (3_000 * wh)) -ℤ e) ≡ shortfall_of c s * (3_000 * wh) - (r * wh + x)
exact_is wh c r x = by⊖ _ λ a a'. by⊖ _ λ b b'. by⊖ _ λ d d'. simp ⊖s λ h k. go a a' b b' d d' _ h k refl (dec_lt a (c + a'))
  where
    go : (a a' b b' d d' j : ℕ) → b + (a * 0 + a' * 3_000 + 0) ≡ a * 3_000 + a' * 0 + r + b' → d + (b * 0 + b' * wh + 0) ≡ b * wh + b' * 0 + x + d'
        → j ≡ c + a' - (0 + a) → Dec (a < c + a') → c * (3_000 * wh) + d' - (0 + d) ≡ j * (3_000 * wh) - (r * wh + x)
    go a a' b b' d d' j h k e (yes l) =
        let f : j + a ≡ c + a' = omega arith in
        omega (arith, ap (◌* wh) h, ap (◌* wh) f)
    go a a' b b' d d' j h k e (no l) =
        let f : j ≡ 0 = omega arith in
        let g : c + a' ≤ a = omega arith in
        rw f (omega (arith, ap (◌* wh) h, mul-le-mul_right wh g))

-- The printed shortfall in kW beside the exact one in parts, for n points: `same` says that the two are to be equal.
pub record Compared (kilowatt watt n printed exact : ℕ) (same : Bool) : Type 0 where
  pub equal : (printed * kilowatt ≡ exact) ↔ T same
  pub otherwise : T (not same) → (exact < printed * kilowatt) × (printed * kilowatt < exact + (kilowatt + 2 * watt * n))

-- nothing lost, or nothing to lose
exact_same : (kilowatt watt n y lost e : ℕ) → e ≡ y * kilowatt - lost → (y ≡ 0) ⊎ (lost ≡ 0) → Compared kilowatt watt n y e true
exact_same kilowatt watt n y lost e f w = record { equal = (λ q. tt, λ t. go w); otherwise = λ t. absurd t }
  where
    go : (y ≡ 0) ⊎ (lost ≡ 0) → y * kilowatt ≡ e
    go (inl z) = rw (f, z) (omega arith)
    go (inr z) = omega arith

-- something lost
more : (wh n r x y e : ℕ) → 0 < wh → r < 3_000 → x ≤ 6 * n * wh → e ≡ y * (3_000 * wh) - (r * wh + x)
    → ¬ (y ≡ 0) → ¬ ((x ≡ 0) × (r ≡ 0)) → Compared (3_000 * wh) (3 * wh) n y e false
more wh n r x y e p l k f z w =
    let lost = go (dec_lt 0 (r * wh + x)) in
    let printed : 0 < y * (3_000 * wh) = mul-pos (omega arith) (omega arith) in
    record { equal = (λ q. absurd (omega arith), λ t. absurd t); otherwise = λ t. omega (arith, mul-le-mul_right wh l) }
  where
    go : Dec (0 < r * wh + x) → 0 < r * wh + x
    go (yes h) = h
    go (no h) = absurd (w (omega arith, omega (arith, le-mul_of_pos_right r p)))

compare : (reached wholes even : Bool) (wh n r x y e : ℕ) → 0 < wh → r < 3_000 → x ≤ 6 * n * wh → e ≡ y * (3_000 * wh) - (r * wh + x)
    → T reached ↔ (y ≡ 0) → (x ≡ 0) ↔ T wholes → (r ≡ 0) ↔ T even
    → Compared (3_000 * wh) (3 * wh) n y e (reached || wholes && even)
compare true wholes even wh n r x y e p l k f z i j = exact_same (3_000 * wh) (3 * wh) n y _ e f (inl (z.0 tt))
compare false true true wh n r x y e p l k f z i j = exact_same (3_000 * wh) (3 * wh) n y _ e f (inr (rw (j.1 tt, i.1 tt) (omega arith)))
compare false true false wh n r x y e p l k f z i j = more wh n r x y e p l k f (λ q. z.1 q) (λ q. j.0 q.1)
compare false false even wh n r x y e p l k f z i j = more wh n r x y e p l k f (λ q. z.1 q) (λ q. i.0 q.0)

-- THE COMPARISON, for any n points with six quotients each
pub compared : (wh kilowatt watt n contract : ℕ) → 0 < wh → 3_000 * wh ≡ kilowatt → 3 * wh ≡ watt → (qs : List Quotient) → T (every (goes_into wh) qs) → length qs ≡ 6 * n
    → let total = sum_ℤ (map rounded qs) in
    Compared kilowatt watt n
    (shortfall_of contract (settled_of total))
    (or_zero (pos (contract * kilowatt) -ℤ sum_ℤ (map (in_parts wh) qs)))
    (le_z (pos contract) (settled_of total) || every whole qs && divides 3_000 total)
compared wh kilowatt watt n c p e f qs g l =
    let a = all_above wh p qs g in
    let t = sum_ℤ (map rounded qs) in
    let s = settled_of t in
    let w = divides_rest 3_000 t (omega arith) in
    let z = shortfall_zero c s in
    rw (← e, ← f)
    (compare (le_z (pos c) s) (every whole qs) (divides 3_000 t) wh n (rest t 3_000) a.parts _ _ p (rest-< t 3_000 (omega arith))
    (rw (← l) (le_trans (le-add_right _ _) a.most))
    (exact_is wh c (rest t 3_000) a.parts s t _ (rest_is t 3_000 (omega arith)) a.is)
    (λ h. z.0 (le_z_yes h), λ e. (z.1 e).le)
    a.none
    (w.1, w.0))
