-- What a sort by a signed key gives.
use Rattle.std.proofs.Common.{◌≡◌, ℕ, ◌+◌, ◌<◌, ◌⊎◌, inl, inr, arith, List, length, get_or, false, Equal}
use Rattle.std.specs.Prelude.{ℤ, ◌≤ℤ◌, ◌<ℤ◌}
use Rattle.std.specs.Fn.{Called, ComputesKey}
use Rattle.std.specs.List.Sorted.{IsSortedByKey}
use Rattle.std.specs.Ordering.{int_cmp, is_lt, ordering_then}
use Rattle.std.proofs.lemmas.Int.{ints, by_lt_z}
use Rattle.std.proofs.lemmas.Fn.{always_returns_same}
use denote.Param.Members.{Mut}
use denote.Ref.{Bor}

at_most : (x y : ℤ) → is_lt (int_cmp x y) ≡ false → y ≤ℤ x
at_most x y h = by_lt_z {P = y ≤ℤ x} x y (λ l. grind (arith, ints)) (λ l. l)

pub sorted_by_int : {X F : Type 0} {g : Mut F (Bor X × Unit {0}) ℤ} {f : F} (n : X → ℤ) (xs : List X)
    → ((key : X → ℤ) → ComputesKey g key f → IsSortedByKey key int_cmp xs)
    → ((a : Bor X × Unit {0}) (r : ℤ) (f' : F) → Called g f a r f' → (r ≡ n a.0.now) × (f' ≡ f))
    → (k : ℕ) (d : X) → k + 1 < length xs → n (get_or xs k d) ≤ℤ n (get_or xs (k + 1) d)
sorted_by_int {X} {F} {g} {f} n xs up h k d l =
    at_most (n (get_or xs (k + 1) d)) (n (get_or xs k d)) (up n (always_returns_same g (λ a r. r ≡ n a.0.now) f h) k d (omega arith) l)

-- the same for pairs of keys: by the first, and where those are equal by the second
at_most_pair : (a b c d : ℤ) → is_lt (ordering_then (int_cmp a c) (int_cmp b d)) ≡ false → (c <ℤ a) ⊎ ((c ≡ a) × (d ≤ℤ b))
at_most_pair a b c d h =
    by_lt_z {P = (c <ℤ a) ⊎ ((c ≡ a) × (d ≤ℤ b))} a c
    (λ l. grind (arith, ints))
    (λ l. by_lt_z {P = (c <ℤ a) ⊎ ((c ≡ a) × (d ≤ℤ b))} c a
    (λ m. inl m)
    (λ m.
    let e : c ≡ a = omega (arith, ints) in
    let same : int_cmp a c ≡ Equal = grind (arith, ints) in
    let f : is_lt (int_cmp b d) ≡ false = rw same at h in
    inr (e, at_most b d f)))

pub sorted_by_ints : {X F : Type 0} {g : Mut F (Bor X × Unit {0}) (ℤ × ℤ)} {f : F} (n m : X → ℤ) (xs : List X)
    → ((key : X → ℤ × ℤ) → ComputesKey g key f → IsSortedByKey key (λ a b. ordering_then (int_cmp a.0 b.0) (int_cmp a.1 b.1)) xs)
    → ((a : Bor X × Unit {0}) (r : ℤ × ℤ) (f' : F) → Called g f a r f' → (r ≡ (n a.0.now, m a.0.now)) × (f' ≡ f))
    → (k : ℕ) (d : X) → k + 1 < length xs → (n (get_or xs k d) <ℤ n (get_or xs (k + 1) d)) ⊎ ((n (get_or xs k d) ≡ n (get_or xs (k + 1) d)) × (m (get_or xs k d) ≤ℤ m (get_or xs (k + 1) d)))
sorted_by_ints {X} {F} {g} {f} n m xs up h k d l =
    at_most_pair (n (get_or xs (k + 1) d)) (m (get_or xs (k + 1) d)) (n (get_or xs k d)) (m (get_or xs k d))
    (up (λ x. (n x, m x)) (always_returns_same g (λ a r. r ≡ (n a.0.now, m a.0.now)) f h) k d (omega arith) l)
