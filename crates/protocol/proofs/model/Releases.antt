-- What the memory of a running rack has of open releases is what the model's book has, card by card, dead cards too.
use Rattle.std.specs.Prelude.{ℕ, ◌≡◌, List, [], Bool, true, false, not, ◌&&◌, eqb}
use Rattle.laws.proofs.Prelude.{refl, ap, true≢false}
use Rattle.directory.specs.declared.Directory.{Directory}
use Rattle.directory.specs.Directory.{is_live}
use Rattle.area.specs.Prelude.{Release, own_release, open_list, has_open_release}
use Rattle.diff.specs.Prices.{prices_of}
use Rattle.diff.proofs.Stored.{OnPages, prices_on_pages}
use Rattle.protocol.specs.Release.{size_of, open_prices}
use Rattle.protocol.specs.Opening.{share_word, shares_with}
use Rattle.protocol.specs.Fetch.{in_motion}
use Rattle.protocol.specs.Book.{Opened, none, opened, list_prices, prices_in, Book}
use Rattle.protocol.specs.Model.{is_opened, already_counts}
use Rattle.protocol.proofs.invariant.Rack.{RunningRack}
use Rattle.protocol.proofs.invariant.Running.{stands_open, is_open, idle_word, own_is_last}
use Rattle.protocol.proofs.model.Labels.{prices_word_of, page_by_words, price_one_label, shared_by_labels}

pub not_opened : (R : Opened) → is_opened R ≡ false → R ≡ none
not_opened none idle = refl
not_opened (opened r list steps) opens = absurd (true≢false opens)

module _ (d : Directory) (m : List ℕ) (b : Book) (rack : RunningRack d m b) where
  idle : (c : ℕ) → b.release c ≡ none → has_open_release d.live (size_of d) m c ≡ false
  unfolding has_open_release
  idle c is = go (is_live d c) refl
    where
      go : (up : Bool) → is_live d c ≡ up → has_open_release d.live (size_of d) m c ≡ false
      go true live = idle_word d m b rack c live is
      go false dead = rw dead

  -- 4, 15 and 16
  pub open_by_book : (c : ℕ) → has_open_release d.live (size_of d) m c ≡ is_opened (b.release c)
  open_by_book c = go (b.release c) refl
    where
      go : (R : Opened) → b.release c ≡ R → has_open_release d.live (size_of d) m c ≡ is_opened R
      go none is = idle c is
      go (opened r list steps) is = is_open d m b rack c r list steps is

  -- 5 and 6: with none open, the stamp is the last number
  pub stamp_by_book : (c : ℕ) → is_live d c ≡ true → is_opened (b.release c) ≡ false
      → (own_release (size_of d) m c).number ≡ (b.last c).number
  stamp_by_book c live none_open =
      ap (λ (own : Release). own.number) (own_is_last d m b rack c live (not_opened (b.release c) none_open))

  -- 8
  pub shares_by_book : (c : ℕ) (list : List ℕ) (x : ℕ)
      → shares_with d.live d.pages m c list x
      ≡ not (eqb x c) && price_one_label d.pages (prices_in (b.release x)) (prices_of d.pages list)
  unfolding shares_with share_word
  shares_by_book c list x = ap (λ (shares : Bool). not (eqb x c) && shares) (go (b.release x) refl)
    where
      go : (R : Opened) → b.release x ≡ R
          → has_open_release d.live (size_of d) m x && share_word (open_prices d.pages m x) (prices_of d.pages list)
          ≡ price_one_label d.pages (prices_in R) (prices_of d.pages list)
      go none is = rw (idle x is) (shared_by_labels d.pages [] (prices_of d.pages list) tt)
      go (opened r open-list steps) is =
          let prices = (stands_open d m b rack x r open-list steps is).1.stands.prices in
          rw (is_open d m b rack x r open-list steps is, prices)
          (shared_by_labels d.pages (list_prices open-list) (prices_of d.pages list)
          (rw prices at (prices_on_pages d.pages (open_list (size_of d) m x))))

  -- 10
  pub moves_by_book : (page c : ℕ)
      → in_motion d.live d.pages m page c ≡ already_counts (b.release c) && prices_word_of (prices_in (b.release c)) page
  unfolding in_motion
  moves_by_book page c = go (b.release c) refl
    where
      go : (R : Opened) → b.release c ≡ R
          → in_motion d.live d.pages m page c ≡ already_counts R && prices_word_of (prices_in R) page
      go none is = rw (idle c is)
      go (opened r list steps) is =
          let stands = (stands_open d m b rack c r list steps is).1.stands in
          let on : OnPages d.pages (list_prices list) =
          rw stands.prices at (prices_on_pages d.pages (open_list (size_of d) m c)) in
          rw (is_open d m b rack c r list steps is, stands.prices, stands.steps)
          (ap (λ (named : Bool). already_counts (opened r list steps) && named)
          (page_by_words d.pages (list_prices list) page on))
