-- A recovery up to its records: the open releases are closed, the failed card's last number and desk are answered, and
-- the pages are restored and copied to new homes.
use Rattle.std.specs.Prelude.{ℕ, ◌+◌, ◌*◌, ◌≤◌, ◌<◌, ◌≡◌, ◌≢◌, ◌⊎◌, List, Bool, true, false, length}
use Rattle.laws.proofs.Prelude.{refl, sym, ◌∙◌, inl, inr, subst, arith, ℕ_discrete}
use Rattle.directory.specs.declared.Directory.{Directory}
use Rattle.directory.specs.Directory.{live_at, is_live, primary_of, next_live_of}
use Rattle.directory.specs.NewHome.{HomeRule, Another, NamesLive}
use Rattle.area.specs.Prelude.{load, record_stamp, record_done, pages_start, page_size, under_way, load_number}
use Rattle.area.proofs.Prelude.{recorded_is, under_way_yes, under_way_no, In, record_region, stamp_in, done_in, desk_in}
use Rattle.area.proofs.Prelude.{number_kept}
use Rattle.protocol.specs.Release.{size_of}
use Rattle.protocol.specs.Recovery.{backup_before, close_releases, restored_memory, kept_home, new_home_of}
use Rattle.protocol.specs.Recovery.{copy_to_new_homes, moved_below, failed_release, awaited_card}
use Rattle.protocol.specs.Book.{Book, count_open, clear_open}
use Rattle.protocol.proofs.release.Shape.{area_of_live, shape_kept}
use Rattle.protocol.proofs.release.WordAfter.{HomeOf}
use Rattle.protocol.proofs.claims.Claim.{HomeWord, idle_words}
use Rattle.protocol.proofs.claims.Halves.{tentatives, committeds}
use Rattle.protocol.proofs.invariant.Core.{Core}
use Rattle.protocol.proofs.recovery.Closing.{close_core_all}
use Rattle.protocol.proofs.recovery.Restoring.{source, half_word, RestoredBelow, restored}
use Rattle.protocol.proofs.recovery.Copying.{BothHalves, HomesCopied, homes_copied}
use Rattle.protocol.proofs.recovery.Homes.{kept_primary, kept_secondary, MovedBelow, moved_below_lem, Covered}
use Rattle.protocol.proofs.invariant.Rack.{AwaitingRack, another, stamp_of, done_of, next_is_live}
use Rattle.protocol.proofs.book.Counting.{count_open_last}

pub enough : {d : Directory} {f : ℕ} {m : List ℕ} {b : Book} → AwaitingRack d f m b → Covered d
enough rack =
    let few = rack.core.shape.few_pages in
    (omega (arith, rack.arrays.primaries), omega (arith, rack.arrays.secondaries))

-- ---- the releases closed, the pages restored and copied

module _ (d : Directory) (f : ℕ) (m : List ℕ) (b : Book) (rack : AwaitingRack d f m b) where
  abbrev book_after : Book
  book_after = clear_open (count_open b)

  abbrev memory_closed : List ℕ
  memory_closed = close_releases d f m

  pub few : f < 8
  few = omega (arith, rack.real, rack.core.shape.few_cards)

  past_dead : (x : ℕ) → d.cards ≤ x → is_live d x ≡ false
  past_dead x past = go (is_live d x) refl
    where
      go : (up : Bool) → is_live d x ≡ up → is_live d x ≡ false
      go true live = absurd (omega (arith, rack.core.shape.below x live))
      go false dead = dead

  pub closed : Core d (backup_before d f) (load (size_of d) m) (stamp_of d f m ≢ done_of d f m)
      (stamp_of d f m ≡ done_of d f m) memory_closed book_after
  closed = close_core_all d f _ _ _ m b past_dead rack.core

  up : is_live d (next_live_of d f) ≡ true
  up = next_is_live d rack.two rack.core.shape.below f

  -- f's record is not touched
  record_kept : (o : ℕ) → In (record_region f) o
      → load (size_of d) memory_closed (next_live_of d f) o ≡ load (size_of d) m (next_live_of d f) o
  record_kept o in-record = closed.dead f (next_live_of d f) o rack.lost rack.real up in-record

  stamp_kept : load_number (size_of d) memory_closed (next_live_of d f) (record_stamp f) ≡ stamp_of d f m
  stamp_kept = number_kept _ (record_stamp f) _ (λ j within. record_kept _ (stamp_in f j within))

  done_kept : load_number (size_of d) memory_closed (next_live_of d f) (record_done f) ≡ done_of d f m
  done_kept = number_kept _ (record_done f) _ (λ j within. record_kept _ (done_in f j within))

  pub last_same : (g : ℕ) → is_live d g ≡ false → book_after.last g ≡ b.last g
  last_same g dead = count_open_last b g (rack.core.gone g dead)

  -- the answer
  pub answers : failed_release d f m ≡ b.last f
  unfolding failed_release
  answers =
      recorded_is (size_of d) memory_closed (next_live_of d f) f (b.last f)
      (area_of_live closed.shape (next_live_of d f) up)
      (omega arith)
      few (rack.core.last_eight f) (stamp_kept ∙ rack.stamped)
      (λ j within. record_kept _ (desk_in f (b.last f).number j within) ∙ rack.desked j within)

  -- for the card whose recovery is awaited, which failed last
  pub answers_awaited : failed_release d (awaited_card d.status) m ≡ b.last b.failed
  unfolding awaited_card
  answers_awaited =
      let card : awaited_card d.status ≡ f = rw rack.awaiting in
      rw (card, rack.failed) answers

  abbrev forward : Bool
  forward = under_way (size_of d) memory_closed (next_live_of d f) f

  abbrev memory_restored : List ℕ
  memory_restored = restored_memory d f m

  -- the pages are restored from what stands once the releases are closed
  pages_restored : RestoredBelow d forward d.pages memory_closed memory_restored
  unfolding restored_memory
  pages_restored = restored d forward memory_closed closed.shape

  -- the half that is copied from is the book's, at live homes
  source_is_price : (way : Bool) → forward ≡ way → (h p w : ℕ) → HomeWord d h p w
      → half_word (size_of d) memory_closed h p (source way) w ≡ book_after.price (32 * p + w)
  source_is_price true is h p w word =
      let differ : stamp_of d f m ≢ done_of d f m = λ same.
      under_way_yes (size_of d) memory_closed (next_live_of d f) f is
      (stamp_kept ∙ same ∙ sym done_kept) in
      idle_words d (tentatives d (backup_before d f)) book_after.release book_after.price memory_closed (λ c. refl)
      (closed.tentative differ) h p w word
  source_is_price false is h p w word =
      let same : stamp_of d f m ≡ done_of d f m =
      sym stamp_kept ∙ under_way_no (size_of d) memory_closed (next_live_of d f) f is ∙ done_kept in
      idle_words d (committeds d (backup_before d f)) book_after.release book_after.price memory_closed (λ c. refl)
      (closed.committed same) h p w word

  -- so both halves are, once restored
  pub restored_both_halves : (h p : ℕ) → is_live d h ≡ true → HomeOf d h p → p < d.pages
      → BothHalves (size_of d) book_after.price memory_restored h p
  restored_both_halves h p live home page = go forward refl pages_restored
    where
      word : (w : ℕ) → w < page_size → HomeWord d h p w
      word w within = record { live = live; home = home; page = page; word = within }

      go : (way : Bool) → forward ≡ way → RestoredBelow d way d.pages memory_closed memory_restored
          → BothHalves (size_of d) book_after.price memory_restored h p
      go true is below =
          record {
            tentatives = λ w within. below.kept h p w page within ∙ source_is_price true is h p w (word w within);
            committeds = λ w within.
                below.copied h p w page page within live home ∙ source_is_price true is h p w (word w within);
          }
      go false is below =
          record {
            tentatives = λ w within.
                below.copied h p w page page within live home ∙ source_is_price false is h p w (word w within);
            committeds = λ w within. below.kept h p w page within ∙ source_is_price false is h p w (word w within);
          }

  -- ---- the homes

  -- the home that a page keeps is live, and is one of its homes
  pub kept_home_lem : (p : ℕ) → p < d.pages → (is_live d (kept_home d f p) ≡ true) × HomeOf d (kept_home d f p) p
  kept_home_lem p page =
      elim (ℕ_discrete (primary_of d p) f) [
        | yes lost ↦
            rw (kept_secondary d f p lost)
            (not_lost (rack.secondary_live p page) (λ e. rack.homes_differ p page (lost ∙ sym e)), inl refl)
        | no other ↦ rw (kept_primary d f p other) (not_lost (rack.primary_live p page) other, inr refl)
      ]
    where
      not_lost : {h : ℕ} → (is_live d h ≡ true) ⊎ (h ≡ f) → h ≢ f → is_live d h ≡ true
      not_lost (inl live) other = live
      not_lost (inr same) other = absurd (other same)

  pub kept_both_halves : (p : ℕ) → p < d.pages
      → BothHalves (size_of d) book_after.price memory_restored (kept_home d f p) p
  kept_both_halves p page = restored_both_halves (kept_home d f p) p (kept_home_lem p page).0 (kept_home_lem p page).1 page

  -- ---- the new homes, by a rule that names live cards

  module _ (rule : HomeRule) (good : NamesLive rule) where
    -- the rule is told the directory of that moment, which has the marks that it had
    module _ (p : ℕ) (page : p < d.pages) where
      abbrev moment : Directory
      moment = moved_below rule d f p

      moves : MovedBelow rule d f p moment
      moves = moved_below_lem rule d f (enough rack) p (omega arith)

      beside : Another moment (kept_home d f p)
      beside =
          let there = another d rack.two rack.core.shape.below (kept_home d f p) in
          record {
            card = there.card;
            below = rw moves.cards there.below;
            live = rw moves.live there.live;
            differs = there.differs;
          }

      pub new_home : is_live d (new_home_of rule d f p) ≡ true
      unfolding new_home_of
      new_home =
          subst (λ (marks : List Bool). live_at marks (rule moment (kept_home d f p)) ≡ true) moves.live
          (good.live moment (kept_home d f p) beside)

      pub new_is_other : new_home_of rule d f p ≢ kept_home d f p
      unfolding new_home_of
      new_is_other = good.differs moment (kept_home d f p) beside

    abbrev memory_copied : List ℕ
    memory_copied = copy_to_new_homes rule d f memory_restored

    pub pages_copied : HomesCopied rule d f book_after.price d.pages memory_restored memory_copied
    pages_copied =
        homes_copied rule d f book_after.price memory_restored
        (shape_kept closed.shape memory_restored pages_restored.same_length)
        (λ p page lost. (kept_home_lem p page).0) (λ p page lost. kept_both_halves p page) (λ p page lost. new_home p page)

    -- every word below the pages is as it was when the releases were closed
    pub low_kept : (h o : ℕ) → o < pages_start → load (size_of d) memory_copied h o ≡ load (size_of d) memory_closed h o
    low_kept h o small = pages_copied.low h o small ∙ pages_restored.low h o small

    pub pages_length : length memory_copied ≡ length memory_closed
    pages_length = pages_copied.same_length ∙ pages_restored.same_length
