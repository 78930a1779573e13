-- Restoring the pages: at each live home of each page the one half becomes what the other is, and
-- nothing else changes.
use Rattle.std.specs.Prelude.{ℕ, zero, suc, ◌+◌, ◌≤◌, ◌<◌, ◌≡◌, ◌≢◌, ◌⊎◌, List, Bool, true, false, cond, length}
use Rattle.laws.proofs.Prelude.{refl, ◌∙◌, inl, inr, arith, ℕ_discrete}
use native.Mathlib.Nat.{add-zero}
use Rattle.laws.specs.Search.{in_turn}
use Rattle.directory.specs.declared.Directory.{Directory}
use Rattle.directory.specs.Directory.{is_live, primary_of, secondary_of}
use Rattle.area.specs.Prelude.{load, copy_run, page_at, page_size, tentative, committed, tentative_half, committed_half}
use Rattle.area.specs.Prelude.{pages_start}
use Rattle.area.proofs.Prelude.{outside, NotIn, half_region, length_copy_run, load_copy_run_outside}
use Rattle.area.proofs.Prelude.{load_copy_run_inside}
use Rattle.protocol.specs.Release.{size_of}
use Rattle.protocol.specs.Recovery.{restore_home, restore_page, restore_pages}
use Rattle.protocol.proofs.release.Shape.{Shape, area_of_live, shape_kept}
use Rattle.protocol.proofs.release.WordAfter.{HomeOf}

-- the half that is copied, and the one that it is copied to
abbrev pub source : Bool → ℕ
source forward = cond forward tentative_half committed_half

abbrev pub target : Bool → ℕ
target forward = cond forward committed_half tentative_half

-- a word of a half of a page
abbrev pub half_word : ℕ → List ℕ → ℕ → ℕ → ℕ → ℕ → ℕ
half_word size m h p half w = load size m h (page_at p + (half + w))

halves_apart : (forward : Bool)
    → (source forward + page_size ≤ target forward) ⊎ (target forward + page_size ≤ source forward)
halves_apart true = inl (omega arith)
halves_apart false = inr (omega arith)

halves_small : (forward : Bool) → (source forward ≤ page_size) × (target forward ≤ page_size)
halves_small true = (omega arith, omega arith)
halves_small false = (omega arith, omega arith)

-- ---- one home of one page

module _ (d : Directory) (forward : Bool) (page home : ℕ) (m : List ℕ) where
  -- a live home copies
  restores : is_live d home ≡ true → restore_home d forward page home m
      ≡ copy_run (size_of d) m home (page_at page + source forward) home (page_at page + target forward) page_size
  unfolding restore_home
  restores live = go forward
    where
      go : (forward : Bool)
          → cond (is_live d home)
          (cond forward (copy_run (size_of d) m home (tentative page) home (committed page) page_size)
          (copy_run (size_of d) m home (committed page) home (tentative page) page_size)) m
          ≡ copy_run (size_of d) m home (page_at page + source forward) home (page_at page + target forward) page_size
      go true = rw (live, add-zero (page_at page))
      go false = rw (live, add-zero (page_at page))

  -- a dead one does not
  restores_not : is_live d home ≡ false → restore_home d forward page home m ≡ m
  unfolding restore_home
  restores_not dead = rw dead

  pub length_restore : length (restore_home d forward page home m) ≡ length m
  length_restore = go (is_live d home) refl
    where
      go : (up : Bool) → is_live d home ≡ up → length (restore_home d forward page home m) ≡ length m
      go true live = rw (restores live) (length_copy_run (size_of d) m home _ home _ page_size)
      go false dead = rw (restores_not dead)

  module _ (fits : page < d.pages) where
    -- words outside the copied half
    elsewhere : {A : Type 0} (h o : ℕ) → (h ≢ home) ⊎ A → (A → NotIn (half_region page (target forward)) o)
        → o < size_of d → load (size_of d) (restore_home d forward page home m) h o ≡ load (size_of d) m h o
    elsewhere h o apart known inside = go (is_live d home) refl
      where
        go : (up : Bool) → is_live d home ≡ up
            → load (size_of d) (restore_home d forward page home m) h o ≡ load (size_of d) m h o
        go true live =
            rw (restores live)
            (load_copy_run_outside (size_of d) m home _ home _ page_size h o
            (outside (half_region page (target forward)) apart known (omega (arith, (halves_small forward).1)) inside))
        go false dead = rw (restores_not dead)

    pub restore_low : (h o : ℕ) → o < pages_start
        → load (size_of d) (restore_home d forward page home m) h o ≡ load (size_of d) m h o
    restore_low h o low = elsewhere h o (inr low) (λ _ here. omega arith) (omega arith)

    -- the copied half, and every half of another page or card
    pub restore_source : (h p w : ℕ) → p < d.pages → w < page_size
        → half_word (size_of d) (restore_home d forward page home m) h p (source forward) w
        ≡ half_word (size_of d) m h p (source forward) w
    restore_source h p w inside within =
        elsewhere h (page_at p + (source forward + w)) (inr (halves_apart forward)) apart
        (omega (arith, (halves_small forward).0))
      where
        apart : (source forward + page_size ≤ target forward) ⊎ (target forward + page_size ≤ source forward)
            → NotIn (half_region page (target forward)) (page_at p + (source forward + w))
        apart (inl first) here = omega (arith, (halves_small forward).1)
        apart (inr second) here = omega (arith, (halves_small forward).0)

    pub restore_other : (h p w half : ℕ) → p < d.pages → w < page_size → half ≤ page_size → (h ≢ home) ⊎ (p ≢ page)
        → half_word (size_of d) (restore_home d forward page home m) h p half w ≡ half_word (size_of d) m h p half w
    restore_other h p w half inside within small apart =
        elsewhere h (page_at p + (half + w)) apart (λ other here. omega (arith, (halves_small forward).1)) (omega arith)

    -- the half that it is copied to
    pub restore_target : Shape d m → is_live d home ≡ true → (w : ℕ) → w < page_size
        → half_word (size_of d) (restore_home d forward page home m) home page (target forward) w
        ≡ half_word (size_of d) m home page (source forward) w
    restore_target shape live w within =
        let area = area_of_live shape home live in
        let to : page_at page + (target forward + w) ≡ page_at page + target forward + w = omega arith in
        let from : page_at page + source forward + w ≡ page_at page + (source forward + w) = omega arith in
        rw (restores live, to)
        (load_copy_run_inside (size_of d) m home (page_at page + source forward) home
        (page_at page + target forward) page_size
        area area (omega (arith, (halves_small forward).0)) (omega (arith, (halves_small forward).1)) w within
        ∙ rw from)

-- ---- the pages below n

pub record RestoredBelow (d : Directory) (forward : Bool) (n : ℕ) (m m' : List ℕ) : Type 0 where
  pub same_length : length m' ≡ length m
  pub low : (h o : ℕ) → o < pages_start → load (size_of d) m' h o ≡ load (size_of d) m h o
  pub kept : (h p w : ℕ) → p < d.pages → w < page_size
      → half_word (size_of d) m' h p (source forward) w ≡ half_word (size_of d) m h p (source forward) w
  pub copied : (h p w : ℕ) → p < n → p < d.pages → w < page_size → is_live d h ≡ true → HomeOf d h p
      → half_word (size_of d) m' h p (target forward) w ≡ half_word (size_of d) m h p (source forward) w

module _ (d : Directory) (forward : Bool) (m : List ℕ) (shape : Shape d m) where
  -- one home more of page n, with `done` saying which of its homes are copied
  one_home : (n home : ℕ) (m' : List ℕ) (done : ℕ → Type 0) → n < d.pages → RestoredBelow d forward n m m'
      → ((h w : ℕ) → w < page_size → is_live d h ≡ true → done h
      → half_word (size_of d) m' h n (target forward) w ≡ half_word (size_of d) m h n (source forward) w)
      → RestoredBelow d forward n m (restore_home d forward n home m')
      × ((h w : ℕ) → w < page_size → is_live d h ≡ true → done h ⊎ (h ≡ home)
      → half_word (size_of d) (restore_home d forward n home m') h n (target forward) w
      ≡ half_word (size_of d) m h n (source forward) w)
  one_home n home m' done fits below homes = (
    record {
      same_length = length_restore d forward n home m' ∙ below.same_length;
      low = λ h o small. restore_low d forward n home m' fits h o small ∙ below.low h o small;
      kept = λ h p w inside within.
          restore_source d forward n home m' fits h p w inside within ∙ below.kept h p w inside within;
      copied = λ h p w before inside within live is_home.
          restore_other d forward n home m' fits h p w (target forward) inside within (halves_small forward).1
          (inr (omega arith))
          ∙ below.copied h p w before inside within live is_home;
    },
    λ h w within live which. at h w within live which (ℕ_discrete h home),
  )
    where
      at : (h w : ℕ) → w < page_size → is_live d h ≡ true → done h ⊎ (h ≡ home) → Dec (h ≡ home)
          → half_word (size_of d) (restore_home d forward n home m') h n (target forward) w
          ≡ half_word (size_of d) m h n (source forward) w
      at h w within live which (yes same) =
          rw same
          (restore_target d forward n home m' fits (shape_kept shape m' below.same_length) (rw same at live) w
          within
          ∙ below.kept home n w fits within)
      at h w within live (inl was) (no other) =
          restore_other d forward n home m' fits h n w (target forward) fits within (halves_small forward).1
          (inl other)
          ∙ homes h w within live was
      at h w within live (inr same) (no other) = absurd (other same)

  one_page : (n : ℕ) (m' : List ℕ) → n < d.pages → RestoredBelow d forward n m m'
      → RestoredBelow d forward (suc n) m (restore_page d forward n m')
  unfolding restore_page
  one_page n m' fits below =
      let second = one_home n (secondary_of d n) m' (λ h. ⊥) fits below (λ h w within live was. absurd was) in
      let first = one_home n (primary_of d n) _ (λ h. ⊥ ⊎ (h ≡ secondary_of d n)) fits second.0 second.1 in
      record {
        same_length = first.0.same_length;
        low = first.0.low;
        kept = first.0.kept;
        copied = λ h p w before inside within live home.
            elim (ℕ_discrete p n) [
              | yes same ↦ rw same (first.1 h w within live (which h (rw same at home)))
              | no other ↦ first.0.copied h p w (omega arith) inside within live home
            ];
      }
    where
      which : (h : ℕ) → HomeOf d h n → (⊥ ⊎ (h ≡ secondary_of d n)) ⊎ (h ≡ primary_of d n)
      which h (inl home) = inl (inr home)
      which h (inr home) = inr home

  pub restored_below : (n : ℕ) → n ≤ d.pages → RestoredBelow d forward n m (in_turn (restore_page d forward) n m)
  unfolding in_turn
  restored_below zero fits =
      record {
        same_length = refl;
        low = λ h o small. refl;
        kept = λ h p w inside within. refl;
        copied = λ h p w before inside within live home. absurd (omega arith);
      }
  restored_below (suc n) fits = one_page n _ (omega arith) (restored_below n (omega arith))

  pub restored : RestoredBelow d forward d.pages m (restore_pages d forward m)
  unfolding restore_pages
  restored = restored_below d.pages (omega arith)
