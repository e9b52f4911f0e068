-- Lemmas on two fields of an `OutputState`: a capacity that is fixed or open, and bytes that are
-- known or not. `Steps`, `FlagPuts` and `Lengths` use them.
use Rattle.std.proofs.Common.{◌≡◌, ℕ, ◌+◌, ◌-◌, ◌<◌, ◌≤◌, Option, Some, None, IsSome, IfSome, is_some, List, [], ◌++◌, length, take, drop, refl, sym, ap, ◌∙◌, subst, arith, append_assoc, append-nil, length-append}
use Rattle.std.specs.Option.{option_map}
use Rattle.std.specs.Io.KnownBytes.{Appends}
use Rattle.std.proofs.lemmas.List.{take_at, drop_at}
use Rattle.amq_protocol_types.specs.generation.BufferOutput.{overwrite}

-- a bytes fit the capacity, and then b what is left of it: so both fit
pub both_fit : (capacity left : Option ℕ) (a b c : ℕ) → c ≡ a + b → IfSome capacity (λ n. a ≤ n) → left ≡ option_map (λ n. n - a) capacity → IfSome left (λ n. b ≤ n) → IfSome capacity (λ n. c ≤ n)
both_fit None left a b c sum p e q = tt
both_fit (Some n) left a b c sum p e q =
    let Q : Option ℕ → Type 0 = λ o. IfSome o (λ m. b ≤ m) in
    let second : b ≤ n - a = subst Q e q in
    omega arith

-- the capacity left after a bytes and then b
pub both_left : (capacity left last : Option ℕ) (a b c : ℕ) → c ≡ a + b → left ≡ option_map (λ n. n - a) capacity → last ≡ option_map (λ n. n - b) left → last ≡ option_map (λ n. n - c) capacity
both_left None left last a b c sum e f = f ∙ ap (option_map (λ n. n - b)) e
both_left (Some n) left last a b c sum e f =
    let same : n - a - b ≡ n - c = omega arith in
    f ∙ ap (option_map (λ n. n - b)) e ∙ ap Some same

-- the capacity after a bytes were written and taken back
pub capacity_back : (capacity left last : Option ℕ) (a : ℕ) → IfSome capacity (λ n. a ≤ n) → left ≡ option_map (λ n. n - a) capacity → last ≡ option_map (λ n. n + a) left → last ≡ capacity
capacity_back None left last a p e f = f ∙ ap (option_map (λ n. n + a)) e
capacity_back (Some n) left last a p e f =
    let same : n - a + a ≡ n = omega arith in
    f ∙ ap (option_map (λ n. n + a)) e ∙ ap Some same

-- b bytes don't fit the capacity left after a: so both don't fit
pub both_too_many : (capacity left : Option ℕ) (a b c : ℕ) → a + b ≤ c → IfSome capacity (λ n. a ≤ n) → left ≡ option_map (λ n. n - a) capacity → (m : ℕ) × (left ≡ Some m) × (m < b) → (n : ℕ) × (capacity ≡ Some n) × (n < c)
both_too_many None left a b c sum p e (m, is, few) = cc
both_too_many (Some n) left a b c sum p e (m, is, few) =
    let same : Some (n - a) ≡ Some m = sym e ∙ is in
    let same' : n - a ≡ m = cc in
    (n, refl, omega arith)

-- if the capacity is fixed, so is what is left of it
pub still_fixed : (capacity left : Option ℕ) (a : ℕ) → left ≡ option_map (λ n. n - a) capacity → IsSome capacity → IsSome left
still_fixed None left a e h = cc
still_fixed (Some n) left a e h = ap is_some e

-- if both would fit, b bytes fit the capacity left after a
pub rest_fits : (P : Type 0) (capacity left : Option ℕ) (a b c : ℕ) → a + b ≤ c → left ≡ option_map (λ n. n - a) capacity → IfSome left (λ n. b ≤ n → P) → IfSome capacity (λ n. c ≤ n → P)
rest_fits P None left a b c sum e h = tt
rest_fits P (Some n) left a b c sum e h =
    let Q : Option ℕ → Type 0 = λ o. IfSome o (λ m. b ≤ m → P) in
    λ fit. subst Q e h (omega arith)

-- nothing was appended if the bytes are as they were
pub nothing_appended : (a b : Option (List ℕ)) → b ≡ a → Appends a b []
nothing_appended None b e = tt
nothing_appended (Some put) b e = subst (λ (o : Option (List ℕ)). Appends (Some put) o []) (sym e) (sym (append-nil put))

-- what was appended and then cut away leaves the known bytes as they were
pub reported_back : (reported more last : Option (List ℕ)) (at : ℕ) (bytes : List ℕ) → IfSome reported (λ put. length put ≡ at) → IsSome reported → Appends reported more bytes → last ≡ option_map (take at) more → last ≡ reported
reported_back None more last at bytes long h p e = absurd cc
reported_back (Some put) None last at bytes long h p e = absurd p
reported_back (Some put) (Some all) last at bytes long h p e = e ∙ ap Some (ap (take at) p ∙ take_at put bytes at long)

-- overwriting the start of what was appended
pub prefix_overwritten : (reported more : Option (List ℕ)) (at : ℕ) (zeros ys rest : List ℕ) → IfSome reported (λ put. length put ≡ at) → length zeros ≡ length ys → Appends reported more (zeros ++ rest) → Appends reported (option_map (λ put. overwrite put at ys) more) (ys ++ rest)
prefix_overwritten None more at zeros ys rest long same p = tt
prefix_overwritten (Some put) None at zeros ys rest long same p = absurd p
prefix_overwritten (Some put) (Some all) at zeros ys rest long same p =
    let prefix : take at all ≡ put = ap (take at) p ∙ take_at put (zeros ++ rest) at long in
    let n = at + length ys in
    let count : length (put ++ zeros) ≡ n = length-append put zeros ∙ (λ i. long i + same i) in
    let after : drop n all ≡ rest = ap (drop n) (p ∙ sym (append_assoc put zeros rest)) ∙ drop_at (put ++ zeros) rest n count in
    λ i. prefix i ++ (ys ++ after i)

-- what holds anyway holds in any capacity
pub any_capacity : (P : Type 0) (capacity : Option ℕ) (a : ℕ) → P → IfSome capacity (λ n. a ≤ n → P)
any_capacity P None a h = tt
any_capacity P (Some n) a h = λ _. h
