-- The book when open releases run to their close, one card after the other: each is counted if it did not count yet,
-- and struck out. That is what the book does at a recovery.
use Rattle.std.specs.Prelude.{ℕ, zero, suc, ◌+◌, ◌-◌, ◌≤◌, ◌<◌, ◌≡◌, ◌≢◌, List, Bool, true, false, cond, length, ltb}
use Rattle.laws.proofs.Prelude.{refl, ◌∙◌, arith, ℕ_discrete, dec_lt, lt-ltb, le-ltb}
use mathlib.Core.Path.{fun_ext}
use native.Mathlib.Nat.{add-zero}
use Rattle.laws.specs.Search.{in_turn}
use Rattle.area.specs.Prelude.{Release}
use Rattle.protocol.specs.Release.{counts_at, steps_in}
use Rattle.protocol.specs.Book.{Opened, none, opened, list_prices, Book, count, set_open, step_book, count_uncounted}
use Rattle.protocol.specs.Book.{count_open, clear_open}
use Rattle.protocol.proofs.book.Changes.{update_same, update_other, update-update, update_unchanged}
use Rattle.protocol.proofs.book.Changes.{step_book_plain, step_book_counts, step_book_closes}

-- ---- books that are equal part by part

book_as : {price price' : ℕ → ℕ} {last last' : ℕ → Release} {release release' : ℕ → Opened} {failed failed' : ℕ}
    → price ≡ price' → last ≡ last' → release ≡ release' → failed ≡ failed'
    → ◌≡◌ {A = Book} (record { price = price; last = last; release = release; failed = failed })
    (record { price = price'; last = last'; release = release'; failed = failed' })
book_as p l r f = cc

-- ---- one release

-- the book when card c's release has run to its close
abbrev pub closed_book : Book → ℕ → Opened → Book
closed_book b c R = set_open (count_uncounted c R b) c none

module _ (b : Book) (c : ℕ) (r : Release) (list : List ℕ) (s : ℕ) where
  count_early : s < counts_at (length (list_prices list)) → count_uncounted c (opened r list s) b ≡ count b c r list
  unfolding count_uncounted
  count_early early = rw (lt-ltb s (counts_at (length (list_prices list))) early)

  count_late : counts_at (length (list_prices list)) ≤ s → count_uncounted c (opened r list s) b ≡ b
  unfolding count_uncounted
  count_late late = rw (le-ltb s (counts_at (length (list_prices list))) late)

-- ---- a step of it

module _ (b : Book) (c : ℕ) (r : Release) (list : List ℕ) (s : ℕ) where
  abbrev R' : Opened
  R' = opened r list (suc s)

  -- a step that does not close changes nothing of the end
  pub closed-step : suc s ≢ steps_in (length (list_prices list))
      → closed_book (step_book b c (opened r list s)) c R' ≡ closed_book b c (opened r list s)
  closed-step on = go (ℕ_discrete (suc s) (counts_at (length (list_prices list))))
    where
      go : Dec (suc s ≡ counts_at (length (list_prices list)))
          → closed_book (step_book b c (opened r list s)) c R' ≡ closed_book b c (opened r list s)
      go (yes counts) =
          rw (
            step_book_counts b c r list s counts,
            count_late (set_open (count b c r list) c R') c r list (suc s) (omega arith),
            count_early b c r list s (omega arith),
          )
          (book_as refl refl (update-update b.release c R' none) refl)
      go (no plain) = rw (step_book_plain b c r list s plain on)
          (counted (dec_lt s (counts_at (length (list_prices list)))))
        where
          counted : Dec (s < counts_at (length (list_prices list)))
              → closed_book (set_open b c R') c R' ≡ closed_book b c (opened r list s)
          counted (yes early) =
              rw (count_early (set_open b c R') c r list (suc s) (omega arith), count_early b c r list s early)
              (book_as refl refl (update-update b.release c R' none) refl)
          counted (no late) =
              rw (count_late (set_open b c R') c r list (suc s) (omega arith), count_late b c r list s (omega arith))
              (book_as refl refl (update-update b.release c R' none) refl)

  -- the step that closes
  pub closed_last : suc s ≡ steps_in (length (list_prices list))
      → step_book b c (opened r list s) ≡ closed_book b c (opened r list s)
  closed_last closes = step_book_closes b c r list s closes ∙ rw (count_late b c r list s (omega arith))

  -- the release is open until then
  pub still_open : suc s ≢ steps_in (length (list_prices list))
      → (step_book b c (opened r list s)).release c ≡ opened r list (suc s)
  still_open on =
      elim (ℕ_discrete (suc s) (counts_at (length (list_prices list)))) [
        | yes counts ↦ rw (step_book_counts b c r list s counts) (update_same b.release c _)
        | no plain ↦ rw (step_book_plain b c r list s plain on) (update_same b.release c _)
      ]

-- ---- a card with nothing open

count_none : (b : Book) (c : ℕ) → count_uncounted c none b ≡ b
unfolding count_uncounted
count_none b c = refl

pub closed_none : (b : Book) (c : ℕ) → b.release c ≡ none → closed_book b c none ≡ b
closed_none b c is = rw (count_none b c) (book_as refl refl (update_unchanged b.release c none is) refl)

-- ---- all cards

-- the book when the releases of the cards below n have run to their close
unfoldable pub closed_books : ℕ → Book → Book
closed_books n b = in_turn (λ c b. closed_book b c (b.release c)) n b

-- ---- what the book says: open releases that do not count are counted, then all are struck out

-- two books that differ at most in what is open
record SamePrices (b b' : Book) : Type 0 where
  price : b.price ≡ b'.price
  last : b.last ≡ b'.last
  failed : b.failed ≡ b'.failed

count_same : (c : ℕ) (R : Opened) (b b' : Book) → SamePrices b b'
    → SamePrices (count_uncounted c R b) (count_uncounted c R b')
unfolding count_uncounted
count_same c none b b' same = same
count_same c (opened r list s) b b' same = go (ltb s (counts_at (length (list_prices list))))
  where
    go : (early : Bool) → SamePrices (cond early (count b c r list) b) (cond early (count b' c r list) b')
    go true = record { price = rw same.price; last = rw same.last; failed = same.failed }
    go false = same

count_keeps_open : (c : ℕ) (R : Opened) (b : Book) → (count_uncounted c R b).release ≡ b.release
unfolding count_uncounted
count_keeps_open c none b = refl
count_keeps_open c (opened r list s) b = go (ltb s (counts_at (length (list_prices list))))
  where
    go : (early : Bool) → (cond early (count b c r list) b).release ≡ b.release
    go true = refl
    go false = refl

module _ (b : Book) where
  counted : ℕ → Book
  counted n = in_turn (λ c. count_uncounted c (b.release c)) n b

  record ClosedBelow (n : ℕ) (closed : Book) : Type 0 where
    same : SamePrices closed (counted n)
    cleared : (x : ℕ) → x < n → closed.release x ≡ none
    left : (x : ℕ) → n ≤ x → closed.release x ≡ b.release x

  closed_below : (n : ℕ) → ClosedBelow n (closed_books n b)
  unfolding closed_books counted in_turn
  closed_below zero =
      record {
        same = record { price = refl; last = refl; failed = refl };
        cleared = λ x below. absurd (omega arith);
        left = λ x above. refl;
      }
  closed_below (suc n) = go (closed_below n)
    where
      go : ClosedBelow n (closed_books n b)
          → ClosedBelow (suc n) (closed_book (closed_books n b) n ((closed_books n b).release n))
      go below =
          let now = closed_books n b in
          let counts = count_same n (now.release n) now (counted n) below.same in
          let kept = count_keeps_open n (now.release n) now in
          record {
            same = rw (← (below.left n (omega arith)))
                (record { price = counts.price; last = counts.last; failed = counts.failed });
            cleared = λ x small.
                elim (ℕ_discrete x n) [
                  | yes here ↦ rw (kept, here) (update_same now.release n none)
                  | no other ↦ rw kept (update_other now.release n none x other ∙ below.cleared x (omega arith))
                ];
            left = λ x above. rw kept
                (update_other now.release n none x (omega arith) ∙ below.left x (omega arith));
          }

  -- past the cards nothing is open
  counted_past : (cards more : ℕ) → ((x : ℕ) → cards ≤ x → b.release x ≡ none)
      → counted (cards + more) ≡ counted cards
  unfolding counted in_turn
  counted_past cards zero idle = rw (add-zero cards)
  counted_past cards (suc more) idle =
      let on : cards + suc more ≡ suc (cards + more) = omega arith in
      rw (on, idle (cards + more) (omega arith), count_none) (counted_past cards more idle)

  -- what the book does at a recovery is what running the releases to their close does
  pub closed_books_lem : (cards : ℕ) → cards ≤ 8 → ((x : ℕ) → cards ≤ x → b.release x ≡ none)
      → closed_books cards b ≡ clear_open (count_open b)
  unfolding count_open counted
  closed_books_lem cards few idle =
      let below = closed_below cards in
      let all : cards + (8 - cards) ≡ 8 = omega arith in
      let past = rw all at (counted_past cards (8 - cards) idle) in
      rw past
      (book_as below.same.price below.same.last (fun_ext none_open) below.same.failed)
    where
      none_open : (x : ℕ) → (closed_books cards b).release x ≡ none
      none_open x =
          elim (dec_lt x cards) [
            | yes small ↦ (closed_below cards).cleared x small
            | no past ↦ (closed_below cards).left x (omega arith) ∙ idle x (omega arith)
          ]
