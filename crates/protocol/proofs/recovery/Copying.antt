-- Pages copied to new homes: what shows the book's prices goes on showing them, and each new home shows them too.
use Rattle.std.specs.Prelude.{ℕ, zero, suc, ◌+◌, ◌*◌, ◌≤◌, ◌<◌, ◌≡◌, ◌≢◌, ◌⊎◌, List, Bool, true, false, length}
use Rattle.laws.proofs.Prelude.{refl, sym, ◌∙◌, inl, inr, true≢false, arith, ℕ_discrete}
use Rattle.laws.specs.Search.{in_turn}
use Rattle.directory.specs.declared.Directory.{Directory}
use Rattle.directory.specs.Directory.{is_live}
use Rattle.directory.specs.NewHome.{HomeRule}
use Rattle.area.specs.Prelude.{load, copy_run, page_at, page_size, tentative_half, committed_half, pages_start, stored_page_size}
use Rattle.area.proofs.Prelude.{outside, NotIn, page_region, length_copy_run, load_copy_run_outside}
use Rattle.area.proofs.Prelude.{load_copy_run_inside}
use Rattle.protocol.specs.Release.{size_of}
use Rattle.protocol.specs.Recovery.{lost_home, kept_home, new_home_of, copy_to_new_home, copy_to_new_homes}
use Rattle.protocol.proofs.release.Shape.{Shape, area_of_live, shape_kept}

-- both halves of a page at a card are the book's
pub record BothHalves (size : ℕ) (price : ℕ → ℕ) (m : List ℕ) (h p : ℕ) : Type 0 where
  pub tentatives : (w : ℕ) → w < page_size → load size m h (page_at p + (tentative_half + w)) ≡ price (32 * p + w)
  pub committeds : (w : ℕ) → w < page_size → load size m h (page_at p + (committed_half + w)) ≡ price (32 * p + w)

-- a page whose words are those of a page both of whose halves are the book's
pub both_halves_same : {size : ℕ} {price : ℕ → ℕ} {m m' : List ℕ} {h h' p : ℕ}
    → ((o : ℕ) → o < stored_page_size → load size m' h' (page_at p + o) ≡ load size m h (page_at p + o))
    → BothHalves size price m h p
    → BothHalves size price m' h' p
both_halves_same same both =
    record {
      tentatives = λ w within. same (tentative_half + w) (omega arith) ∙ both.tentatives w within;
      committeds = λ w within. same (committed_half + w) (omega arith) ∙ both.committeds w within;
    }

-- ---- one page

module _ (rule : HomeRule) (d : Directory) (f page : ℕ) (m : List ℕ) where
  copies : lost_home d f page ≡ true
      → copy_to_new_home rule d f page m
      ≡ copy_run (size_of d) m (kept_home d f page) (page_at page) (new_home_of rule d f page) (page_at page)
      stored_page_size
  unfolding copy_to_new_home
  copies lost = rw lost

  copies_not : lost_home d f page ≡ false → copy_to_new_home rule d f page m ≡ m
  unfolding copy_to_new_home
  copies_not whole = rw whole

  module _ (lost : lost_home d f page ≡ true) (fits : page < d.pages) where
    elsewhere : {A : Type 0} (h o : ℕ) → (h ≢ new_home_of rule d f page) ⊎ A → (A → NotIn (page_region page) o)
        → o < size_of d
        → load (size_of d) (copy_to_new_home rule d f page m) h o ≡ load (size_of d) m h o
    elsewhere h o apart known inside =
        rw (copies lost)
        (load_copy_run_outside (size_of d) m _ _ _ _ stored_page_size h o
        (outside (page_region page) apart known (omega arith) inside))

    copied_low : (h o : ℕ) → o < pages_start
        → load (size_of d) (copy_to_new_home rule d f page m) h o ≡ load (size_of d) m h o
    copied_low h o low = elsewhere h o (inr low) (λ _ here. omega arith) (omega arith)

    copied_elsewhere : (h p o : ℕ) → p < d.pages → o < stored_page_size → (h ≢ new_home_of rule d f page) ⊎ (p ≢ page)
        → load (size_of d) (copy_to_new_home rule d f page m) h (page_at p + o) ≡ load (size_of d) m h (page_at p + o)
    copied_elsewhere h p o inside within apart =
        elsewhere h (page_at p + o) apart (λ other here. omega arith) (omega arith)

    copied_there : Shape d m → is_live d (kept_home d f page) ≡ true → is_live d (new_home_of rule d f page) ≡ true → (o : ℕ)
        → o < stored_page_size
        → load (size_of d) (copy_to_new_home rule d f page m) (new_home_of rule d f page) (page_at page + o)
        ≡ load (size_of d) m (kept_home d f page) (page_at page + o)
    copied_there shape kept new o within =
        rw (copies lost)
        (load_copy_run_inside (size_of d) m (kept_home d f page) (page_at page) (new_home_of rule d f page) (page_at page)
        stored_page_size (area_of_live shape _ kept) (area_of_live shape _ new) (omega arith) (omega arith) o
        within)

-- ---- the pages below n

pub record HomesCopied (rule : HomeRule) (d : Directory) (f : ℕ) (price : ℕ → ℕ) (n : ℕ) (m m' : List ℕ) : Type 0 where
  pub same_length : length m' ≡ length m
  pub low : (h o : ℕ) → o < pages_start → load (size_of d) m' h o ≡ load (size_of d) m h o
  pub stays : (h p : ℕ) → p < d.pages → BothHalves (size_of d) price m h p → BothHalves (size_of d) price m' h p
  pub new : (p : ℕ) → p < n → p < d.pages → lost_home d f p ≡ true
      → BothHalves (size_of d) price m' (new_home_of rule d f p) p

module _ (rule : HomeRule) (d : Directory) (f : ℕ) (price : ℕ → ℕ) (m : List ℕ) (shape : Shape d m)
    (kept-live : (p : ℕ) → p < d.pages → lost_home d f p ≡ true → is_live d (kept_home d f p) ≡ true)
    (kept_both_halves : (p : ℕ) → p < d.pages → lost_home d f p ≡ true
    → BothHalves (size_of d) price m (kept_home d f p) p)
    (new-live : (p : ℕ) → p < d.pages → lost_home d f p ≡ true → is_live d (new_home_of rule d f p) ≡ true) where
  one_page : (n : ℕ) (m' : List ℕ) → n < d.pages → HomesCopied rule d f price n m m'
      → HomesCopied rule d f price (suc n) m (copy_to_new_home rule d f n m')
  one_page n m' fits below = go (lost_home d f n) refl
    where
      go : (was : Bool) → lost_home d f n ≡ was → HomesCopied rule d f price (suc n) m (copy_to_new_home rule d f n m')
      go false whole =
          rw (copies_not rule d f n m' whole)
          (record {
            same_length = below.same_length;
            low = below.low;
            stays = below.stays;
            new = λ p before inside lost.
                elim (ℕ_discrete p n) [
                  | yes same ↦ absurd (true≢false (sym lost ∙ rw same whole))
                  | no other ↦ below.new p (omega arith) inside lost
                ];
          })
      go true lost =
          record {
            same_length = rw (copies rule d f n m' lost) (length_copy_run _ _ _ _ _ _ _ ∙ below.same_length);
            low = λ h o small. copied_low rule d f n m' lost fits h o small ∙ below.low h o small;
            stays = λ h p inside both. still h p inside (below.stays h p inside both);
            new = λ p before inside lost-too.
                elim (ℕ_discrete p n) [
                  | yes same ↦ rw same there
                  | no other ↦ still (new_home_of rule d f p) p inside (below.new p (omega arith) inside lost-too)
                ];
          }
        where
          there : BothHalves (size_of d) price (copy_to_new_home rule d f n m') (new_home_of rule d f n) n
          there =
              both_halves_same
              (copied_there rule d f n m' lost fits (shape_kept shape m' below.same_length) (kept-live n fits lost)
              (new-live n fits lost))
              (below.stays (kept_home d f n) n fits (kept_both_halves n fits lost))

          still : (h p : ℕ) → p < d.pages → BothHalves (size_of d) price m' h p
              → BothHalves (size_of d) price (copy_to_new_home rule d f n m') h p
          still h p inside both =
              elim (ℕ_discrete p n) [
                | yes same ↦ elim (ℕ_discrete h (new_home_of rule d f n)) [
                  | yes here ↦ rw (same, here) there
                  | no other ↦ both_halves_same
                      (λ o within. copied_elsewhere rule d f n m' lost fits h p o inside within (inl other)) both
                ]
                | no other ↦ both_halves_same
                    (λ o within. copied_elsewhere rule d f n m' lost fits h p o inside within (inr other)) both
              ]

  pub homes_copied_below : (n : ℕ) → n ≤ d.pages → HomesCopied rule d f price n m (in_turn (copy_to_new_home rule d f) n m)
  unfolding in_turn
  homes_copied_below zero fits =
      record {
        same_length = refl;
        low = λ h o small. refl;
        stays = λ h p inside both. both;
        new = λ p before inside lost. absurd (omega arith);
      }
  homes_copied_below (suc n) fits = one_page n _ (omega arith) (homes_copied_below n (omega arith))

  pub homes_copied : HomesCopied rule d f price d.pages m (copy_to_new_homes rule d f m)
  unfolding copy_to_new_homes
  homes_copied = homes_copied_below d.pages (omega arith)
