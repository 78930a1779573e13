-- One word of the memory, loaded after a store, and two stores.
use Rattle.std.specs.Prelude.{ℕ, zero, suc, ◌<◌, ◌≡◌, ◌≢◌, List, [], ◌∷◌, length, set}
use Rattle.laws.proofs.Prelude.{refl, ap}
use lib.ListN.{length-set}
use lib.Seq.{get_or-set_same, get_or-set_other, set-get_or, set-set}
use Rattle.memory.specs.Words.{index_of, AreaIn, load, store}
use Rattle.memory.proofs.Index.{index_in, index_same_offset}

module _ (size : ℕ) (m : List ℕ) (card offset v : ℕ) where
  pub length-store : length (store size m card offset v) ≡ length m
  unfolding store
  length-store = length-set m (index_of size card offset) v

  pub load-store_same : AreaIn (length m) size card → offset < size
      → load size (store size m card offset v) card offset ≡ v
  unfolding load store
  load-store_same area inside = get_or-set_same m (index_of size card offset) v 0 (index_in size card offset area inside)

  module _ (card' offset' : ℕ) where
    pub load-store_elsewhere : index_of size card' offset' ≢ index_of size card offset
        → load size (store size m card offset v) card' offset' ≡ load size m card' offset'
    unfolding load store
    load-store_elsewhere = get_or-set_other m (index_of size card offset) (index_of size card' offset') v 0

-- ---- two stores

module _ (size : ℕ) (m : List ℕ) (card offset : ℕ) where
  -- the word that is there
  pub store_loaded : store size m card offset (load size m card offset) ≡ m
  unfolding load store
  store_loaded = set-get_or m (index_of size card offset) 0

  -- the second of two in one place counts
  pub store_twice : (u v : ℕ) → store size (store size m card offset u) card offset v ≡ store size m card offset v
  unfolding store
  store_twice = set-set m (index_of size card offset)

set_swap : (xs : List ℕ) (i j u v : ℕ) → i ≢ j → set (set xs i u) j v ≡ set (set xs j v) i u
set_swap [] i j u v apart = refl
set_swap (x ∷ xs) zero zero u v apart = absurd (apart refl)
set_swap (x ∷ xs) zero (suc j) u v apart = refl
set_swap (x ∷ xs) (suc i) zero u v apart = refl
set_swap (x ∷ xs) (suc i) (suc j) u v apart = ap (λ ys. x ∷ ys) (set_swap xs i j u v (λ e. apart (ap suc e)))

-- two at other offsets, in either order
pub store_swap : (size : ℕ) (m : List ℕ) (card offset u card' offset' v : ℕ) → offset < size → offset' < size
    → offset ≢ offset'
    → store size (store size m card offset u) card' offset' v ≡ store size (store size m card' offset' v) card offset u
unfolding store
store_swap size m card offset u card' offset' v inside inside' other =
    set_swap m (index_of size card offset) (index_of size card' offset') u v
    (λ e. other (index_same_offset size card offset card' offset' inside inside' e))
