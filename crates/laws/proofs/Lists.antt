-- Lists appended, and runs of stores in a list, beside what `lib.Seq` has.
use Rattle.std.specs.Prelude.{◌≡◌, ◌≢◌, List, [], ◌∷◌, ◌++◌, ℕ, zero, suc, ◌+◌, ◌≤◌, ◌<◌, length, get_or, set, take}
use Rattle.std.specs.Prelude.{drop}
use Rattle.laws.proofs.Prelude.{refl, ap, ◌∙◌, arith}
use mathlib.Core.List.{append-nil}
use native.Mathlib.Nat.{add-zero, zero-add}
use native.Mathlib.Numerals.{add-one}
use lib.ListN.{length-set, drop_of_length-le, length-take, length-drop, take-append-drop}
use lib.Seq.{get_or-append-add, sets, sets-eq, get_or-set_same, get_or-set_other, take-suc, length-take-le, take-add}

-- an element of the second of two lists
pub get_or_right : {A : Type 0} (d : A) (xs ys : List A) (n i j : ℕ) → length xs ≡ n → i ≡ n + j
    → get_or (xs ++ ys) i d ≡ get_or ys j d
get_or_right d xs ys n i j size at = rw (at, ← size) (get_or-append-add xs ys j d)

-- an element that a list has, whatever stands for those that it has not
pub get_or_within : {A : Type 0} (l : List A) (i : ℕ) (d d' : A) → i < length l → get_or l i d ≡ get_or l i d'
get_or_within [] i d d' within = absurd (omega arith)
get_or_within (x ∷ xs) zero d d' within = refl
get_or_within (x ∷ xs) (suc i) d d' within = get_or_within xs i d d' (omega arith)

-- two runs of stores, one after the other
pub sets-append : (us vs l : List ℕ) (i : ℕ) → sets l i (us ++ vs) ≡ sets (sets l i us) (i + length us) vs
sets-append [] vs l i = rw add-zero
sets-append (u ∷ us) vs l i =
    let e : i + suc (length us) ≡ suc i + length us = omega arith in
    rw (e, sets-append us vs)

-- a run stored behind the first element, and behind a first part
pub sets_later : (vs : List ℕ) (w : ℕ) (ws : List ℕ) (i : ℕ) → sets (w ∷ ws) (suc i) vs ≡ w ∷ sets ws i vs
sets_later [] w ws i = refl
sets_later (v ∷ vs) w ws i = sets_later vs w (set ws i v) (suc i)

pub sets-second : (us ws : List ℕ) (i : ℕ) (vs : List ℕ) → sets (us ++ ws) (length us + i) vs ≡ us ++ sets ws i vs
sets-second [] ws i vs = rw zero-add
sets-second (u ∷ us) ws i vs =
    let on : suc (length us) + i ≡ suc (length us + i) = omega arith in
    rw on (sets_later vs u (us ++ ws) (length us + i) ∙ ap (λ l. u ∷ l) (sets-second us ws i vs))

-- a run stored from the front on
pub sets_front : (vs l : List ℕ) → length vs ≤ length l → sets l 0 vs ≡ vs ++ drop (length vs) l
sets_front vs l fits = sets-eq vs l 0 (omega arith) ∙ rw (zero-add)

-- a run stored over the whole list
pub sets_whole : (vs l : List ℕ) → length vs ≡ length l → sets l 0 vs ≡ vs
sets_whole vs l same =
    sets_front vs l (omega arith) ∙ rw (drop_of_length-le l {i = length vs} (omega arith), append-nil)

-- one element more of ws stored
pub sets-take_more : (ws l : List ℕ) (i j : ℕ) → j < length ws
    → set (sets l i (take j ws)) (i + j) (get_or ws j 0) ≡ sets l i (take (j + 1) ws)
sets-take_more ws l i j inside =
    let stored : length (take j ws) ≡ j = length-take-le j ws (omega arith) in
    rw (add-one, take-suc ws j 0 inside, sets-append, stored)

-- what stands after a run of stores: outside it, what stood there
pub get_or-sets_outside : (vs l : List ℕ) (i k : ℕ) → ((j : ℕ) → j < length vs → k ≢ i + j)
    → get_or (sets l i vs) k 0 ≡ get_or l k 0
get_or-sets_outside [] l i k apart = refl
get_or-sets_outside (v ∷ vs) l i k apart =
    get_or-sets_outside vs (set l i v) (suc i) k (λ j h e. apart (suc j) (omega arith) (omega arith))
    ∙ get_or-set_other l i k v 0 (λ e. apart 0 (omega arith) (omega arith))

-- inside it, what was stored
pub get_or-sets_inside : (vs l : List ℕ) (i j : ℕ) → i + j < length l → j < length vs
    → get_or (sets l i vs) (i + j) 0 ≡ get_or vs j 0
get_or-sets_inside [] l i j fits inside = absurd (omega arith)
get_or-sets_inside (v ∷ vs) l i zero fits inside =
    rw add-zero
    (get_or-sets_outside vs (set l i v) (suc i) i (λ j h e. omega arith) ∙ get_or-set_same l i v 0 (omega arith))
get_or-sets_inside (v ∷ vs) l i (suc j) fits inside =
    let e : i + suc j ≡ suc i + j = omega arith in
    rw e (get_or-sets_inside vs (set l i v) (suc i) j (simp length-set (omega arith)) (omega arith))

-- a part of a list with an element set
pub take-set : {A : Type 0} (n : ℕ) (l : List A) (i : ℕ) (a : A) → take n (set l i a) ≡ set (take n l) i a
take-set zero l i a = refl
take-set (suc n) [] i a = refl
take-set (suc n) (x ∷ xs) zero a = refl
take-set (suc n) (x ∷ xs) (suc i) a = rw (take-set n xs i a)

-- a part stored where it was read
pub sets_self : (l : List ℕ) (i n : ℕ) → i + n ≤ length l → sets l i (take n (drop i l)) ≡ l
sets_self l i n fits =
    let long : length (take n (drop i l)) ≡ n = simp (length-take, length-drop) (omega arith) in
    sets-eq (take n (drop i l)) l i (omega arith) ∙ rw (long, ← take-add i n l) (take-append-drop (i + n) l)
