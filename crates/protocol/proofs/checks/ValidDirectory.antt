-- What a rack that passes check 2 keeps to: homes that are cards, two live cards, an awaited card that is dead.
use Rattle.std.specs.Prelude.{ℕ, ◌<◌, ◌≡◌, List, Bool, true, false, leb, eqb}
use Rattle.laws.proofs.Prelude.{false≢true, arith, ℕ_discrete, leb-false, ltb-false}
use Rattle.laws.specs.Search.{any_below, count_below}
use Rattle.laws.proofs.Bools.{neither}
use Rattle.laws.proofs.Search.{none_below, highest}
use Rattle.directory.specs.declared.Directory.{Directory}
use Rattle.directory.specs.declared.Status.{Status}
use Rattle.directory.specs.declared.Status.TheVariants.{Running, Awaiting}
use Rattle.directory.specs.Directory.{live_at, is_live, primary_of, secondary_of}
use Rattle.directory.specs.NewHome.{Another}
use Rattle.protocol.specs.Checks.{few_live, bad_home, bad_page, bad_status, unfit_rack, awaits_recovery}
use Rattle.protocol.specs.Recovery.{awaited_card}

pub record ValidDirectory (d : Directory) : Type 0 where
  pub primary_in : (p : ℕ) → p < d.pages → primary_of d p < d.cards
  pub secondary_in : (p : ℕ) → p < d.pages → secondary_of d p < d.cards
  -- two cards are live: beside any card another
  pub beside : (c : ℕ) → Another d c
  pub awaited : awaits_recovery d.status ≡ true
      → (awaited_card d.status < d.cards) × (is_live d (awaited_card d.status) ≡ false)

home_in : (cards : ℕ) (marks : List Bool) (status : Status) (h : ℕ) → bad_home cards marks status h ≡ false → h < cards
unfolding bad_home
home_in cards marks status h passed = leb-false cards h (neither (leb cards h) _ passed).0

homes_in : (d : Directory) (p : ℕ) → bad_page d p ≡ false → (primary_of d p < d.cards) × (secondary_of d p < d.cards)
unfolding bad_page
homes_in d p passed =
    let apart = neither (eqb (primary_of d p) (secondary_of d p)) _ passed in
    let homes = neither (bad_home d.cards d.live d.status (primary_of d p)) _ apart.1 in
    (home_in _ d.live d.status _ homes.0, home_in _ d.live d.status _ homes.1)

two_live_lem : (d : Directory) → few_live d.live d.cards ≡ false → (c : ℕ) → Another d c
unfolding few_live
two_live_lem d passed c =
    let x = highest (is_live d) 1 d.cards (ltb-false (count_below (is_live d) d.cards) 2 passed) in
    let y = highest (is_live d) 0 x.index x.others in
    elim (ℕ_discrete x.index c) [
      | yes same ↦
          record {
            card = y.index;
            below = omega (arith, x.below, y.below);
            live = y.passes;
            differs = λ e. omega (arith, y.below);
          }
      | no other ↦ record { card = x.index; below = x.below; live = x.passes; differs = other }
    ]

awaited_in : (cards : ℕ) (marks : List Bool) (status : Status) → bad_status cards marks status ≡ false
    → awaits_recovery status ≡ true → (awaited_card status < cards) × (live_at marks (awaited_card status) ≡ false)
unfolding bad_status awaits_recovery awaited_card
awaited_in cards marks Running passed awaits = absurd (false≢true awaits)
awaited_in cards marks (Awaiting f) passed awaits =
    let both = neither (leb cards f) _ passed in
    (leb-false cards f both.0, both.1)

pub valid_directory : (d : Directory) (m : List ℕ) → unfit_rack d m ≡ false → ValidDirectory d
unfolding unfit_rack
valid_directory d m fit =
    let live = neither (few_live d.live d.cards) _ fit in
    let pages = neither (any_below (bad_page d) d.pages) _ live.1 in
    let cards = neither (bad_status d.cards d.live d.status) _ pages.1 in
    let homes : (p : ℕ) → p < d.pages → (primary_of d p < d.cards) × (secondary_of d p < d.cards)
    = λ p below. homes_in d p (none_below (bad_page d) _ pages.0 p below)
    in
    record {
      primary_in = λ p below. (homes p below).0;
      secondary_in = λ p below. (homes p below).1;
      beside = two_live_lem d live.0;
      awaited = awaited_in d.cards d.live d.status cards.0;
    }
