-- Runs of words of the memory: loaded after stores, stored one after another, cleared, copied.
use Rattle.std.specs.Prelude.{ℕ, zero, suc, ◌+◌, ◌*◌, ◌-◌, ◌<◌, ◌≤◌, ◌≡◌, List, [], ◌∷◌, ◌++◌, length, get_or, drop}
use Rattle.laws.proofs.Prelude.{refl, sym, ap, ◌∙◌, arith}
use Prim.Native.Nat.{min}
use native.Mathlib.Nat.{add_assoc}
use lib.ListN.{length-take, length-drop, length-replicate}
use lib.Seq.{sets, drop-drop, take-add, get_or-take, get_or-drop, ext_get_or, length-sets}
use Rattle.laws.proofs.Lists.{sets-append, sets_later, get_or-sets_outside, get_or-sets_inside}
use Rattle.memory.specs.Words.{index_of, AreaIn, load, store, load_run, overwrite, store_run, zeros, clear_run}
use Rattle.memory.specs.Words.{copy_run}
use Rattle.memory.proofs.Index.{Outside, outside_fewer}
use Rattle.memory.proofs.Parts.{length_part, sets_part, sets_all_part}
use Rattle.memory.proofs.Words.{store_swap}

-- ---- zeros

pub length-zeros : (n : ℕ) → length (zeros n) ≡ n
unfolding zeros
length-zeros n = length-replicate n 0

-- also past their end
pub get_or-zeros : (n i : ℕ) → get_or (zeros n) i 0 ≡ 0
unfolding zeros
get_or-zeros zero i = refl
get_or-zeros (suc n) zero = refl
get_or-zeros (suc n) (suc i) = get_or-zeros n i

pub load-zeros : (size words card offset : ℕ) → load size (zeros words) card offset ≡ 0
unfolding load
load-zeros size words card offset = get_or-zeros words (index_of size card offset)

-- ---- a run loaded

module _ (size : ℕ) (m : List ℕ) (card offset n : ℕ) where
  pub get_or-load_run : (j : ℕ) → j < n → get_or (load_run size m card offset n) j 0 ≡ load size m card (offset + j)
  unfolding load load_run
  get_or-load_run j inside =
      get_or-take n (drop (index_of size card offset) m) j 0 inside
      ∙ get_or-drop (index_of size card offset) m j 0
      ∙ rw add_assoc

  -- as much of it as lies in the memory
  pub length-load_run_min : length (load_run size m card offset n) ≡ min n (length m - index_of size card offset)
  unfolding load_run
  length-load_run_min = simp (length-take, length-drop)

  pub length-load_run : AreaIn (length m) size card → offset + n ≤ size → length (load_run size m card offset n) ≡ n
  length-load_run area fits = omega (arith, length-load_run_min)

  pub load_run_append : (k : ℕ)
      → load_run size m card offset (n + k) ≡ load_run size m card offset n ++ load_run size m card (offset + n) k
  unfolding load_run
  load_run_append k = take-add n k (drop (index_of size card offset) m) ∙ rw (drop-drop, add_assoc)

  -- a run is the list of its words
  pub load_run_is : (vs : List ℕ) → length vs ≡ n → AreaIn (length m) size card → offset + n ≤ size
      → ((j : ℕ) → j < n → load size m card (offset + j) ≡ get_or vs j 0) → load_run size m card offset n ≡ vs
  load_run_is vs long area fits words =
      let whole = length-load_run area fits in
      ext_get_or 0 (load_run size m card offset n) vs (whole ∙ sym long)
      (λ j h. get_or-load_run j (omega arith) ∙ words j (omega arith))

pub load_run_zeros : (size words card offset n : ℕ) → AreaIn words size card → offset + n ≤ size
    → load_run size (zeros words) card offset n ≡ zeros n
load_run_zeros size words card offset n area fits =
    load_run_is size (zeros words) card offset n (zeros n) (length-zeros n) (omega (arith, length-zeros words)) fits
    (λ j h. load-zeros size words card (offset + j) ∙ sym (get_or-zeros n j))

-- a run of which each word is kept is kept
pub load_run_kept : (size : ℕ) (m m' : List ℕ) (card offset n : ℕ) → length m' ≡ length m
    → ((j : ℕ) → j < n → load size m' card (offset + j) ≡ load size m card (offset + j))
    → load_run size m' card offset n ≡ load_run size m card offset n
load_run_kept size m m' card offset n same words =
    let l = length-load_run_min size m card offset n in
    let l' = length-load_run_min size m' card offset n in
    ext_get_or 0 (load_run size m' card offset n) (load_run size m card offset n) (omega arith)
    (λ j h.
    let inside : j < n = omega arith in
    get_or-load_run size m' card offset n j inside ∙ words j inside ∙ sym (get_or-load_run size m card offset n j inside))

-- ---- a run stored

sets_nowhere : (vs : List ℕ) (i : ℕ) → sets [] i vs ≡ []
sets_nowhere [] i = refl
sets_nowhere (v ∷ vs) i = sets_nowhere vs (suc i)

-- words written over others are stored one after the other
overwrite-sets : (l : List ℕ) (i : ℕ) (vs : List ℕ) → overwrite l i vs ≡ sets l i vs
unfolding overwrite
overwrite-sets [] i vs = sym (sets_nowhere vs i)
overwrite-sets (w ∷ ws) i [] = refl
overwrite-sets (w ∷ ws) zero (v ∷ vs) = ap (λ l. v ∷ l) (overwrite-sets ws 0 vs) ∙ sym (sets_later vs v ws 0)
overwrite-sets (w ∷ ws) (suc i) (v ∷ vs) =
    ap (λ l. w ∷ l) (overwrite-sets ws i (v ∷ vs)) ∙ sym (sets_later (v ∷ vs) w ws i)

pub store_run_sets : (size : ℕ) (m : List ℕ) (card offset : ℕ) (vs : List ℕ)
    → store_run size m card offset vs ≡ sets m (index_of size card offset) vs
unfolding store_run
store_run_sets size m card offset vs = overwrite-sets m (index_of size card offset) vs

-- a part of a list that becomes a run of zeros
pub ruleset cleared_part = (length_part, sets_part, sets_all_part, store_run_sets, length-zeros)

-- a run of one word is that word
pub store_run_one : (size : ℕ) (m : List ℕ) (card offset v : ℕ)
    → store_run size m card offset (v ∷ []) ≡ store size m card offset v
unfolding store
store_run_one size m card offset v = store_run_sets size m card offset (v ∷ [])

module _ (size : ℕ) (m : List ℕ) (card offset : ℕ) (vs : List ℕ) where
  pub length-store_run : length (store_run size m card offset vs) ≡ length m
  length-store_run = rw store_run_sets (length-sets m (index_of size card offset) vs)

  pub store_run_cons : (v : ℕ)
      → store_run size m card offset (v ∷ vs) ≡ store_run size (store size m card offset v) card (offset + 1) vs
  unfolding store
  store_run_cons v =
      let next : suc (index_of size card offset) ≡ index_of size card (offset + 1) = omega arith in
      rw (store_run_sets, store_run_sets, ← next)

  pub load-store_run_outside : (card' offset' : ℕ) → Outside size card offset (length vs) card' offset'
      → load size (store_run size m card offset vs) card' offset' ≡ load size m card' offset'
  unfolding load
  load-store_run_outside card' offset' out =
      rw store_run_sets
      (get_or-sets_outside vs m (index_of size card offset) (index_of size card' offset')
      (λ j h e. out.apart j h (e ∙ rw add_assoc)))

  module _ (area : AreaIn (length m) size card) (fits : offset + length vs ≤ size) where
    pub load-store_run_inside : (j : ℕ) → j < length vs
        → load size (store_run size m card offset vs) card (offset + j) ≡ get_or vs j 0
    unfolding load
    load-store_run_inside j inside =
        rw (store_run_sets, ← add_assoc (card * size) offset j)
        (get_or-sets_inside vs m (index_of size card offset) j (omega arith) inside)

    -- read back where it was stored
    pub load_run_store_run : (n : ℕ) → length vs ≡ n → load_run size (store_run size m card offset vs) card offset n ≡ vs
    load_run_store_run n long =
        let same = length-store_run in
        load_run_is size (store_run size m card offset vs) card offset n vs long (omega arith) (omega arith)
        (λ j h. load-store_run_inside j (omega arith))

-- two runs, one after the other
pub store_run_append : (size : ℕ) (m : List ℕ) (card offset : ℕ) (us vs : List ℕ)
    → store_run size m card offset (us ++ vs)
    ≡ store_run size (store_run size m card offset us) card (offset + length us) vs
store_run_append size m card offset us vs =
    let next : index_of size card offset + length us ≡ index_of size card (offset + length us) = omega arith in
    rw (store_run_sets, store_run_sets, store_run_sets) (sets-append us vs m (index_of size card offset) ∙ rw next)

-- a word stored before a run of any card, and the run, in either order
pub store_run_swap : (size : ℕ) (m : List ℕ) (card offset u card' offset' : ℕ) (vs : List ℕ) → offset < offset'
    → offset' + length vs ≤ size
    → store_run size (store size m card offset u) card' offset' vs
    ≡ store size (store_run size m card' offset' vs) card offset u
store_run_swap size m card offset u card' offset' [] before fits = rw (store_run_sets, store_run_sets)
store_run_swap size m card offset u card' offset' (v ∷ vs) before fits =
    store_run_cons size (store size m card offset u) card' offset' vs v
    ∙ ap (λ (x : List ℕ). store_run size x card' (offset' + 1) vs)
    (store_swap size m card offset u card' offset' v (omega arith) (omega arith) (omega arith))
    ∙ store_run_swap size (store size m card' offset' v) card offset u card' (offset' + 1) vs (omega arith)
    (omega arith)
    ∙ ap (λ (x : List ℕ). store size x card offset u) (sym (store_run_cons size m card' offset' vs v))

-- ---- a run cleared

module _ (size : ℕ) (m : List ℕ) (card offset n : ℕ) where
  pub length_clear_run : length (clear_run size m card offset n) ≡ length m
  unfolding clear_run
  length_clear_run = length-store_run size m card offset (zeros n)

  pub load_clear_run_outside : (card' offset' : ℕ) → Outside size card offset n card' offset'
      → load size (clear_run size m card offset n) card' offset' ≡ load size m card' offset'
  unfolding clear_run
  load_clear_run_outside card' offset' out =
      load-store_run_outside size m card offset (zeros n) card' offset'
      (outside_fewer (omega (arith, length-zeros n)) out)

  module _ (area : AreaIn (length m) size card) (fits : offset + n ≤ size) where
    pub load_clear_run_inside : (j : ℕ) → j < n → load size (clear_run size m card offset n) card (offset + j) ≡ 0
    unfolding clear_run
    load_clear_run_inside j inside =
        let long = length-zeros n in
        load-store_run_inside size m card offset (zeros n) area (omega arith) j (omega arith) ∙ get_or-zeros n j

-- ---- a run copied

module _ (size : ℕ) (m : List ℕ) (from offset to offset' n : ℕ) where
  pub length_copy_run : length (copy_run size m from offset to offset' n) ≡ length m
  unfolding copy_run
  length_copy_run = length-store_run size m to offset' (load_run size m from offset n)

  pub load_copy_run_outside : (card offset'' : ℕ) → Outside size to offset' n card offset''
      → load size (copy_run size m from offset to offset' n) card offset'' ≡ load size m card offset''
  unfolding copy_run
  load_copy_run_outside card offset'' out =
      load-store_run_outside size m to offset' (load_run size m from offset n) card offset''
      (outside_fewer (omega (arith, length-load_run_min size m from offset n)) out)

  module _ (source : AreaIn (length m) size from) (target : AreaIn (length m) size to) (fits : offset + n ≤ size)
      (fits' : offset' + n ≤ size) where
    pub load_copy_run_inside : (j : ℕ) → j < n
        → load size (copy_run size m from offset to offset' n) to (offset' + j) ≡ load size m from (offset + j)
    unfolding copy_run
    load_copy_run_inside j inside =
        let long = length-load_run size m from offset n source fits in
        load-store_run_inside size m to offset' (load_run size m from offset n) target (omega arith) j (omega arith)
        ∙ get_or-load_run size m from offset n j inside
