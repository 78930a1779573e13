-- Homes moved page by page: how far it is, and where a page gets its new home.
use Rattle.std.specs.Prelude.{ℕ, ◌+◌, ◌<◌, ◌≤◌, ◌≡◌, List, Bool, true, false, cond, ◌||◌, ◌⊎◌, length, eqb}
use Rattle.laws.proofs.Prelude.{refl, sym, ◌∙◌, inl, inr, arith, eqb-true}
use lib.ListN.{length-set}
use native.Mathlib.Numerals.{add-one}
use Rattle.directory.specs.declared.Directory.{Directory}
use Rattle.directory.specs.Directory.{is_live, primary_of, secondary_of, with_homes, table}
use Rattle.directory.specs.NewHome.{pages_at, even_home, Fewest}
use Rattle.directory.specs.PageCounts.{count_at, one_added, CountsRight}
use Rattle.directory.proofs.Live.{live_not_dead}
use Rattle.directory.proofs.Table.{table-length}
use Rattle.directory.proofs.NewHome.{Keeps, room_at_new, evenly_shared}
use Rattle.directory.proofs.PageCounts.{counts_right_at_first, counts_right_moved}
use Rattle.area.specs.Prelude.{copy_run, page_at, stored_page_size}
use Rattle.protocol.specs.Release.{size_of}
use Rattle.protocol.specs.Recovery.{lost_home, kept_home, new_home_of, copy_to_new_home, moved_below}
use Rattle.protocol.proofs.recovery.Homes.{SameHomes, Covered, MovedBelow, moved_none, moved_below_lem, moved_turn}
use Rattle.recovery.specs.Rack.{OtherLive}
use Rattle.recovery.proofs.Turns.{Turned, turn_none, turn_more}

-- the pages below i have their copies and homes, and the counts are right
pub record Moves (d : Directory) (f : ℕ) (before : List ℕ) (i : ℕ) (m counts : List ℕ) (moved : Directory) : Type 0
  where
    pub copied : Turned (copy_to_new_home even_home d f) d.pages before i m
    pub homes : moved ≡ moved_below even_home d f i
    pub long : length counts ≡ 8
    pub right : CountsRight moved counts

pub moves_none : {d : Directory} {f : ℕ} {before counts : List ℕ} → d.cards ≤ 8 → counts ≡ table (pages_at d) 8
    → Moves d f before 0 before counts d
moves_none {d} {f} few counted =
    record {
      copied = turn_none;
      homes = sym (moved_none even_home d f);
      long = rw counted (table-length (pages_at d) 8);
      right = rw counted (counts_right_at_first d few);
    }

module _ {d : Directory} {f : ℕ} {before : List ℕ} {i : ℕ} {m counts : List ℕ} {moved : Directory}
    (far : Moves d f before i m counts moved) (below : i < d.pages) (enough : Covered d) where
  pub moves_so_far : MovedBelow even_home d f i moved
  moves_so_far = rw far.homes (moved_below_lem even_home d f enough i (omega arith))

  -- the page has its homes still
  still : SameHomes (moved_below even_home d f i) d i
  still = rw far.homes at (moves_so_far.later i (omega arith))

  -- the new home of a page, chosen by the directory as it stands at the page's turn
  pub chosen_home : {kept next : ℕ} → kept ≡ kept_home d f i → next ≡ even_home moved kept → next ≡ new_home_of even_home d f i
  unfolding new_home_of
  chosen_home keeps chosen = rw (chosen, keeps, far.homes)

  module _ (two : OtherLive d) where
    abbrev kept : ℕ
    kept = kept_home d f i

    abbrev new : ℕ
    new = new_home_of even_home d f i

    fewest : Fewest moved kept new
    fewest =
        let other = two kept in
        let shared =
        evenly_shared moved kept
        (record {
          card = other.card;
          below = rw moves_so_far.cards other.below;
          live = rw moves_so_far.live other.live;
          differs = other.differs;
        }) in
        rw (chosen_home refl refl) at shared

    pub new_below : new < d.cards
    new_below = rw moves_so_far.cards at fewest.below

    -- a page that lost a home
    module _ (dead : is_live d f ≡ false) (lost : lost_home d f i ≡ true) (few : d.cards ≤ 8) where
      keeps : Keeps moved i f kept
      unfolding lost_home kept_home
      keeps =
          let stand = moves_so_far.later i (omega arith) in
          rw (stand.0, stand.1) (go (eqb (primary_of d i) f) refl lost)
        where
          go : (was : Bool) → eqb (primary_of d i) f ≡ was → was || eqb (secondary_of d i) f ≡ true
              → ((primary_of d i ≡ f) × (secondary_of d i ≡ cond was (secondary_of d i) (primary_of d i)))
              ⊎ ((primary_of d i ≡ cond was (secondary_of d i) (primary_of d i)) × (secondary_of d i ≡ f))
          go true is _ = inl (eqb-true (primary_of d i) f is, refl)
          go false is lost = inr (refl, eqb-true (secondary_of d i) f lost)

      gone : is_live moved f ≡ false
      gone = rw moves_so_far.live dead

      in_primary : i < length moved.primary
      in_primary = omega (arith, enough.0, moves_so_far.primaries)

      in_secondary : i < length moved.secondary
      in_secondary = omega (arith, enough.1, moves_so_far.secondaries)

      in_pages : i < moved.pages
      in_pages = omega (arith, moves_so_far.pages)

      pub room : d.pages ≤ 64 → count_at counts new < 64
      room most =
          omega (
            arith,
            far.right.right new fewest.below fewest.live,
            room_at_new moved i f kept new in_pages in_primary in_secondary keeps
                (λ e. live_not_dead fewest.live (rw e gone)) fewest.differs,
            moves_so_far.pages,
          )

      pub moves_more : {next counts' : List ℕ} {moved' : Directory} → length next ≡ length m
          → next ≡ copy_run (size_of d) m kept (page_at i) new (page_at i) stored_page_size
          → moved' ≡ with_homes moved i kept new → counts' ≡ one_added counts new
          → Moves d f before (i + 1) next counts' moved'
      unfolding copy_to_new_home
      moves_more same copied moves counted =
          record {
            copied = turn_more far.copied below same (copied ∙ rw lost);
            homes = moves ∙ rw (add-one, moved_turn even_home d f i still, lost, ← far.homes);
            long = rw counted (length-set counts new _ ∙ far.long);
            right =
                rw (moves, counted)
                (counts_right_moved moved counts far.right i f kept new in_pages in_primary in_secondary keeps gone
                fewest.differs (omega (arith, far.long, moves_so_far.cards)));
          }

  -- a page that lost none
  pub moves_same : lost_home d f i ≡ false → Moves d f before (i + 1) m counts moved
  unfolding copy_to_new_home
  moves_same whole =
      record {
        copied = turn_more far.copied below refl (rw whole);
        homes = far.homes ∙ rw (add-one, moved_turn even_home d f i still, whole);
        long = far.long;
        right = far.right;
      }
