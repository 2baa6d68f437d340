-- Whole numbers with a sign, as differences of naturals: `a ⊖ b` is a − b. The operations and the orders of ℤ are those of ℕ on the two
-- sides of ⊖, so a law of ℤ is `by⊖ _ λ a a'. by⊖ _ λ b b'. simp ⊖s (omega arith)`: each number a difference, then ℕ. Assumes nothing.
use mathlib.Core.Path.{◌≡◌, sym, ap}
use mathlib.Core.Logic.{◌↔◌}
use mathlib.Core.Bool.{Bool, true, false, not, cond}
use Prim.Native.Nat.{ℕ, zero, suc, ◌+◌, ◌*◌, ◌-◌, ◌<◌, ◌≤◌}
use native.Mathlib.Omega.{arith}
use lib.Dec.{T, ltb, leb→le, le→leb, ltb→lt, lt→ltb, nltb→le}
use lib.IntN.{ℤ, pos, negsuc, neg_ℤ, ◌+ℤ◌, ◌*ℤ◌, sub_ℕ, nat_abs, pos-ne-negsuc}
use lib.Signed.{◌≤ℤ◌, ◌<ℤ◌, le_z_yes, lt_z_yes, mag}
use Rattle.integers.specs.Integers.{or_zero}

infix 60 ◌⊖◌
pub ◌⊖◌ : ℕ → ℕ → ℤ
a ⊖ b = sub_ℕ a b

-- ---- a difference is pos k or negsuc k

cond_by {ℓ} : (c : Bool) (P : ℤ → Type ℓ) (x y : ℤ) → (T c → P x) → (T (not c) → P y) → P (cond c x y)
cond_by true P x y f g = f tt
cond_by false P x y f g = g tt

by_sign {ℓ} : (a b : ℕ) (P : ℤ → Type ℓ) → ((k : ℕ) → a ≡ b + k → P (pos k)) → ((k : ℕ) → b ≡ a + suc k → P (negsuc k)) → P (a ⊖ b)
unfolding ◌⊖◌
by_sign a b P f g = cond_by (ltb a b) P (negsuc (b - suc a)) (pos (a - b))
    (λ t. let h : a < b = ltb→lt a b t in g (b - suc a) (omega arith))
    (λ t. let h : b ≤ a = nltb→le a b t in f (a - b) (omega arith))

by_signs {ℓ} : (a b c d : ℕ) (P : ℤ → ℤ → Type ℓ)
    → ((k j : ℕ) → a ≡ b + k → c ≡ d + j → P (pos k) (pos j))
    → ((k j : ℕ) → a ≡ b + k → d ≡ c + suc j → P (pos k) (negsuc j))
    → ((k j : ℕ) → b ≡ a + suc k → c ≡ d + j → P (negsuc k) (pos j))
    → ((k j : ℕ) → b ≡ a + suc k → d ≡ c + suc j → P (negsuc k) (negsuc j))
    → P (a ⊖ b) (c ⊖ d)
by_signs a b c d P pp pn np nn = by_sign a b (λ x. P x (c ⊖ d))
    (λ k e. by_sign c d (P (pos k)) (λ j. pp k j e) (λ j. pn k j e))
    (λ k e. by_sign c d (P (negsuc k)) (λ j. np k j e) (λ j. nn k j e))

-- ---- equality

pub ⊖-≡-iff : (a b c d : ℕ) → (a ⊖ b ≡ c ⊖ d) ↔ (a + d ≡ c + b)
⊖-≡-iff a b c d = by_signs a b c d (λ x y. (x ≡ y) ↔ (a + d ≡ c + b))
    (λ k j p q. (λ h. let e : k ≡ j = cc in omega arith, λ h. ap pos (omega arith)))
    (λ k j p q. (λ h. absurd (pos-ne-negsuc k j h), λ h. absurd (omega arith)))
    (λ k j p q. (λ h. absurd (pos-ne-negsuc j k (sym h)), λ h. absurd (omega arith)))
    (λ k j p q. (λ h. let e : k ≡ j = cc in omega arith, λ h. ap negsuc (omega arith)))

-- ---- ℤ is all differences

is_pos : (n a b : ℕ) → a ≡ n + b → pos n ≡ a ⊖ b
is_pos n a b h = by_sign a b (λ z. pos n ≡ z) (λ k e. ap pos (omega arith)) (λ k e. absurd (omega arith))

is_neg : (n a b : ℕ) → b ≡ suc n + a → negsuc n ≡ a ⊖ b
is_neg n a b h = by_sign a b (λ z. negsuc n ≡ z) (λ k e. absurd (omega arith)) (λ k e. ap negsuc (omega arith))

pub pos-⊖ : (n : ℕ) → pos n ≡ n ⊖ 0
pos-⊖ n = is_pos n n 0 (omega arith)

pub negsuc-⊖ : (n : ℕ) → negsuc n ≡ 0 ⊖ suc n
negsuc-⊖ n = is_neg n 0 (suc n) (omega arith)

pub by⊖ {ℓ} : (P : ℤ → Type ℓ) → ((a b : ℕ) → P (a ⊖ b)) → (z : ℤ) → P z
by⊖ P f (pos n) = rw pos-⊖ (f n 0)
by⊖ P f (negsuc n) = rw negsuc-⊖ (f 0 (suc n))

-- ---- the operations

neg_is : (n a b : ℕ) → a + n ≡ b → neg_ℤ (pos n) ≡ a ⊖ b
neg_is zero a b h = is_pos 0 a b (omega arith)
neg_is (suc n) a b h = is_neg n a b (omega arith)

pub neg_pos-⊖ : (n : ℕ) → neg_ℤ (pos n) ≡ 0 ⊖ n
neg_pos-⊖ n = neg_is n 0 n (omega arith)

pub ⊖-neg : (a b : ℕ) → neg_ℤ (a ⊖ b) ≡ b ⊖ a
⊖-neg a b = by_sign a b (λ z. neg_ℤ z ≡ b ⊖ a) (λ k e. neg_is k b a (omega arith)) (λ k e. is_pos (suc k) b a (omega arith))

diff : (a b c d : ℕ) → a + d ≡ c + b → sub_ℕ a b ≡ c ⊖ d
unfolding ◌⊖◌
diff a b c d h = (⊖-≡-iff a b c d).1 h

pub ⊖-add : (a b c d : ℕ) → a ⊖ b +ℤ c ⊖ d ≡ (a + c) ⊖ (b + d)
⊖-add a b c d = by_signs a b c d (λ x y. x +ℤ y ≡ (a + c) ⊖ (b + d))
    (λ k j p q. is_pos (k + j) _ _ (omega arith))
    (λ k j p q. diff k (suc j) _ _ (omega arith))
    (λ k j p q. diff j (suc k) _ _ (omega arith))
    (λ k j p q. is_neg (suc (k + j)) _ _ (omega arith))

pub ⊖-mul : (a b c d : ℕ) → a ⊖ b *ℤ c ⊖ d ≡ (a * c + b * d) ⊖ (a * d + b * c)
⊖-mul a b c d = by_signs a b c d (λ x y. x *ℤ y ≡ (a * c + b * d) ⊖ (a * d + b * c))
    (λ k j p q. is_pos (k * j) _ _ (rw (p, q) (omega arith)))
    (λ k j p q. neg_is (k * suc j) _ _ (rw (p, q) (omega arith)))
    (λ k j p q. neg_is (suc k * j) _ _ (rw (p, q) (omega arith)))
    (λ k j p q. is_pos (suc k * suc j) _ _ (rw (p, q) (omega arith)))

-- ---- the orders, and what reads a number in ℕ

pub ⊖-≤-iff : (a b c d : ℕ) → (a ⊖ b ≤ℤ c ⊖ d) ↔ (a + d ≤ c + b)
⊖-≤-iff a b c d = by_signs a b c d (λ x y. (x ≤ℤ y) ↔ (a + d ≤ c + b))
    (λ k j p q. (λ h. omega (arith, leb→le k j h.le), λ h. le_z_yes (le→leb k j (omega arith))))
    (λ k j p q. (λ h. absurd h.le, λ h. absurd (omega arith)))
    (λ k j p q. (λ h. omega arith, λ h. le_z_yes tt))
    (λ k j p q. (λ h. omega (arith, leb→le j k h.le), λ h. le_z_yes (le→leb j k (omega arith))))

pub ⊖-<-iff : (a b c d : ℕ) → (a ⊖ b <ℤ c ⊖ d) ↔ (a + d < c + b)
⊖-<-iff a b c d = by_signs a b c d (λ x y. (x <ℤ y) ↔ (a + d < c + b))
    (λ k j p q. (λ h. omega (arith, ltb→lt k j h.lt), λ h. lt_z_yes (lt→ltb k j (omega arith))))
    (λ k j p q. (λ h. absurd h.lt, λ h. absurd (omega arith)))
    (λ k j p q. (λ h. omega arith, λ h. lt_z_yes tt))
    (λ k j p q. (λ h. omega (arith, ltb→lt j k h.lt), λ h. lt_z_yes (lt→ltb j k (omega arith))))

pub ⊖-or_zero : (a b : ℕ) → or_zero (a ⊖ b) ≡ a - b
⊖-or_zero a b = by_sign a b (λ z. or_zero z ≡ a - b) (λ k e. omega arith) (λ k e. omega arith)

pub ⊖-nat_abs : (a b k : ℕ) → (nat_abs (a ⊖ b) ≤ k) ↔ ((a ≤ b + k) × (b ≤ a + k))
⊖-nat_abs a b k = by_sign a b (λ z. (nat_abs z ≤ k) ↔ ((a ≤ b + k) × (b ≤ a + k))) (λ i e. omega arith) (λ i e. omega arith)

-- z is in the range of a signed width: `SFits w z` is mag z < 2 ^ hbits w
pub ⊖-mag : (a b H : ℕ) → (mag (a ⊖ b) < H) ↔ ((a < b + H) × (b ≤ a + H))
⊖-mag a b H = by_sign a b (λ z. (mag z < H) ↔ ((a < b + H) × (b ≤ a + H))) (λ i e. omega arith) (λ i e. omega arith)

pub ruleset ⊖s = (pos-⊖, negsuc-⊖, neg_pos-⊖, ⊖-neg, ⊖-add, ⊖-mul, ⊖-≡-iff, ⊖-≤-iff, ⊖-<-iff, ⊖-or_zero, ⊖-nat_abs, ⊖-mag)
