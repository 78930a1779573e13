-- Laws of the directory's changes: what it says of a card or a page after one.
use Rattle.std.specs.Prelude.{ℕ, ◌<◌, ◌≤◌, ◌≡◌, Bool, true, false, ◌≢◌, length}
use lib.Seq.{get_or-set_same, get_or-set_other}
use Rattle.directory.specs.Directory.{Directory, is_live, primary_of, secondary_of, with_mark, marked_dead, marked_live}
use Rattle.directory.specs.Directory.{with_homes}
use Rattle.directory.proofs.Live.{dead_after_death}
use Rattle.directory.proofs.Table.{store_past_end}

-- ---- a mark

module _ (d : Directory) (c : ℕ) where
  pub live_of_marked : (mark : Bool) → c < length d.live → is_live (with_mark d c mark) c ≡ mark
  live_of_marked mark h = get_or-set_same d.live c mark false h

  pub live_of_marked_live : c < length d.live → is_live (marked_live d c) c ≡ true
  live_of_marked_live = live_of_marked true

  -- past the marks too
  pub live_of_marked_dead : is_live (marked_dead d c) c ≡ false
  live_of_marked_dead = dead_after_death d.live c

  pub live_of_other : (mark : Bool) (other : ℕ) → other ≢ c → is_live (with_mark d c mark) other ≡ is_live d other
  live_of_other mark other h = get_or-set_other d.live c other mark false h

  pub marked_past_end : (mark : Bool) → length d.live ≡ 8 → 8 ≤ c → with_mark d c mark ≡ d
  marked_past_end mark e h = rw (store_past_end d.live 8 c mark e h)

-- ---- the homes of a page

module _ (d : Directory) (page primary secondary : ℕ) where
  abbrev moved : Directory
  moved = with_homes d page primary secondary

  pub primary_of_moved : page < length d.primary → primary_of moved page ≡ primary
  primary_of_moved h = get_or-set_same d.primary page primary 0 h

  pub secondary_of_moved : page < length d.secondary → secondary_of moved page ≡ secondary
  secondary_of_moved h = get_or-set_same d.secondary page secondary 0 h

  pub primary_of_other : (other : ℕ) → other ≢ page → primary_of moved other ≡ primary_of d other
  primary_of_other other h = get_or-set_other d.primary page other primary 0 h

  pub secondary_of_other : (other : ℕ) → other ≢ page → secondary_of moved other ≡ secondary_of d other
  secondary_of_other other h = get_or-set_other d.secondary page other secondary 0 h

  pub moved_past_end : length d.primary ≡ 64 → length d.secondary ≡ 64 → 64 ≤ page → moved ≡ d
  moved_past_end e f h =
      rw (
        store_past_end d.primary 64 page primary e h,
        store_past_end d.secondary 64 page secondary f h,
      )
