-- The invariant survives an accepted opening.
use Rattle.std.specs.Prelude.{ℕ, suc, ◌+◌, ◌*◌, ◌≤◌, ◌<◌, ◌≡◌, ◌≢◌, ◌⊎◌, List, Bool, true, false, length}
use Rattle.laws.proofs.Prelude.{refl, sym, ap, ◌∙◌, inl, inr, true≢false, arith, ℕ_discrete}
use Rattle.directory.specs.declared.Directory.{Directory}
use Rattle.directory.specs.Directory.{is_live}
use Rattle.area.specs.Prelude.{AreaIn, load, page_at, tentative_half, committed_half, desk_size}
use Rattle.area.specs.Prelude.{list_size, page_size, Release, own_release, steps_of}
use Rattle.area.proofs.Prelude.{SameOwn, In, NotIn, open_region, record_region, list_region}
use Rattle.diff.specs.Prices.{names, applied_at}
use Rattle.diff.specs.OnlyDiff.{Allowed}
use Rattle.diff.proofs.Prices.{names_none, applied_none}
use Rattle.protocol.specs.Release.{size_of}
use Rattle.protocol.specs.Opening.{open_memory}
use Rattle.protocol.specs.Book.{Opened, none, opened, list_prices, Book, update, set_open, prices_in}
use Rattle.protocol.proofs.release.Shape.{shape_kept, area_of_live}
use Rattle.protocol.proofs.release.WordAfter.{word_after_none}
use Rattle.protocol.proofs.book.Changes.{EightWords, uncounted_early, uncounted_none, update_same}
use Rattle.protocol.proofs.book.Changes.{update_other, update_each}
use Rattle.protocol.proofs.claims.Claim.{Disjoint, HomeWord, Claim, claim_moves}
use Rattle.protocol.proofs.claims.Halves.{tentatives, committeds, pending_none, committed_none, committed_early}
use Rattle.protocol.proofs.claims.Halves.{tentative-first}
use Rattle.protocol.proofs.records.Recorded.{Numbers, Own, Recorded, recorded_kept}
use Rattle.protocol.proofs.invariant.Core.{Core, Standing, Under, standing_kept}
use Rattle.protocol.proofs.release.Opening.{stored_prices, stored_reads, length_open, load_open, opened_release}
use Rattle.protocol.proofs.release.Opening.{opened_list, open_word, open_keeps_own}

module _ (d : Directory) (backup : ℕ → ℕ) (old : ℕ → ℕ → ℕ) (T C : Type 0) (m : List ℕ) (b : Book)
    (core : Core d backup old T C m b) (c : ℕ) (live : is_live d c ≡ true) (idle : b.release c ≡ none) (r : Release)
    (list : List ℕ) (eight : length r.desk ≡ desk_size) (few : length list ≤ list_size)
    (allowed : Allowed d.pages list)
    (next : r.number ≡ suc (b.last c).number)
    (free : (x label : ℕ) → x ≢ c → names (list_prices list) label ≡ true
    → names (prices_in (b.release x)) label ≡ false) where
  abbrev m' : List ℕ
  m' = open_memory (size_of d) m c r list

  abbrev R' : Opened
  R' = opened r list 0

  little : c < 8
  little = omega (arith, core.shape.below c live, core.shape.few_cards)

  area : AreaIn (length m) (size_of d) c
  area = area_of_live core.shape c live

  elsewhere : (h o : ℕ) → o < size_of d → (h ≢ c) ⊎ (NotIn open_region o × NotIn list_region o)
      → load (size_of d) m' h o ≡ load (size_of d) m h o
  elsewhere = load_open (size_of d) m c r list (omega arith) eight few

  same_size : length m' ≡ length m
  same_size = length_open (size_of d) m c r list (omega arith) eight few

  kept_other : (x : ℕ) → x ≢ c → SameOwn (size_of d) m m' x
  kept_other x other =
      record {
        same_length = same_size;
        low = λ o low. elsewhere x o (omega arith) (inl other);
        list = λ o inside. elsewhere x o (omega arith) (inl other);
      }

  word_in_page : (h p w half : ℕ) → HomeWord d h p w → half ≤ page_size
      → load (size_of d) m' h (page_at p + (half + w)) ≡ load (size_of d) m h (page_at p + (half + w))
  word_in_page h p w half word small =
      elsewhere h _ (omega (arith, word.page, word.word)) (inr ((λ here. omega arith), (λ here. omega arith)))

  record_word : (x h o : ℕ) → x < 8 → In (record_region x) o
      → load (size_of d) m' h o ≡ load (size_of d) m h o
  record_word x h o small in-record =
      elsewhere h o (omega arith) (inr ((λ here. omega arith), (λ here. omega arith)))

  no_steps : steps_of (size_of d) m' c ≡ 0
  unfolding steps_of
  no_steps = open_word (size_of d) m c r list (omega arith) eight few area 1 (omega arith)

  own_stands : Standing d.pages m' c R'
  own_stands =
      let stored = opened_list (size_of d) m c r list (omega arith) eight few area in
      let pages = core.shape.few_pages in
      record {
        flagged = open_word (size_of d) m c r list (omega arith) eight few area 0 (omega arith);
        stands = record {
          release = opened_release (size_of d) m c r list (omega arith) eight few area;
          prices = rw stored.1 (stored_prices d.pages list stored.0 pages few allowed);
          steps = no_steps;
        };
        words = length list;
        reads = rw stored.1 (stored_reads d.pages list stored.0 pages few allowed);
      }

  disjoint_opened : Disjoint (update b.release c R')
  disjoint_opened x y label other named =
      elim (ℕ_discrete x c) [
        | yes same ↦
            let elsewhere : y ≢ c = λ e. other (e ∙ sym same) in
            rw (update_other b.release c R' y elsewhere)
            (free y label elsewhere (rw (same, update_same b.release c R') at named))
        | no far ↦
            let named-before : names (prices_in (b.release x)) label ≡ true = rw (update_other b.release c R' x far)
            at named in
            elim (ℕ_discrete y c) [
              | yes here ↦ rw (here, update_same b.release c R') (unnamed x label far named-before)
              | no elsewhere ↦ rw (update_other b.release c R' y elsewhere)
                  (core.disjoint x y label other named-before)
            ]
      ]
    where
      unnamed : (x label : ℕ) → x ≢ c → names (prices_in (b.release x)) label ≡ true
          → names (list_prices list) label ≡ false
      unnamed x label far named-before = go (names (list_prices list) label) refl
        where
          go : (by-list : Bool) → names (list_prices list) label ≡ by-list → names (list_prices list) label ≡ false
          go true by-list = absurd (true≢false (sym named-before ∙ free x label far by-list))
          go false by-list = by-list

  own_same : (x : ℕ) → own_release (size_of d) m' x ≡ own_release (size_of d) m x
  own_same = open_keeps_own (size_of d) m c r list (omega arith) eight few

  open_tentative : Claim d (tentatives d backup) b.release b.price m
      → Claim d (tentatives d backup) (update b.release c R') b.price m'
  open_tentative =
      claim_moves d (tentatives d backup) b.release b.price b.price m m' c R'
      (record {
        grows = λ label _. rw idle (names_none label);
        same_price = λ label _. refl;
        same_word = λ h p w word _. word_in_page h p w tentative_half word (omega arith);
        own = λ h p w word agrees.
            let was = sym (word_after_none h _ _) ∙ (rw (idle, pending_none d backup c, uncounted_none) at agrees)
            ∙ applied_none (32 * p + w) _ in
            rw (word_in_page h p w tentative_half word (omega arith), uncounted_early r list 0 (omega arith))
            (tentative-first d backup c r list 0 eight little refl h p w _ word.word word.home
            ∙ ap (applied_at (list_prices list) (32 * p + w)) was);
      })

  open_committed : Claim d (committeds d backup) b.release b.price m
      → Claim d (committeds d backup) (update b.release c R') b.price m'
  open_committed =
      claim_moves d (committeds d backup) b.release b.price b.price m m' c R'
      (record {
        grows = λ label _. rw idle (names_none label);
        same_price = λ label _. refl;
        same_word = λ h p w word _. word_in_page h p w committed_half word (omega arith);
        own = λ h p w word agrees.
            rw (
              word_in_page h p w committed_half word (omega arith),
              committed_early d backup c r list 0 eight
                  (omega arith),
            )
            (rw (idle, committed_none d backup c) at agrees);
      })

  pub open_core : Core d backup old T C m' (set_open b c R')
  open_core =
      record {
        shape = shape_kept core.shape m' same_size;
        standing = update_each b.release c R' (λ x R. is_live d x ≡ true → Standing d.pages m' x R)
            (λ _. own_stands)
            (λ x other up. standing_kept d.pages m m' x (b.release x) (kept_other x other) (core.standing x up));
        gone = update_each b.release c R' (λ x R. is_live d x ≡ false → R ≡ none)
            (λ dead. absurd (true≢false (sym live ∙ dead))) (λ x other. core.gone x);
        under = update_each b.release c R' (λ x R. Under R) (omega arith) (λ x other. core.under x);
        eights = update_each b.release c R' (λ x R. EightWords R) eight (λ x other. core.eights x);
        last_eight = core.last_eight;
        disjoint = disjoint_opened;
        numbers = update_each b.release c R' (λ x R. Numbers R (b.last x))
            ((λ _. next), (λ late. absurd (omega arith))) (λ x other. core.numbers x);
        owns = update_each b.release c R'
            (λ x R. is_live d x ≡ true → Own R (own_release (size_of d) m' x) (b.last x))
            (λ _. rw (own_same c, rw idle at (core.owns c live)) next)
            (λ x other up. rw (own_same x) (core.owns x up));
        tentative = λ t. open_tentative (core.tentative t);
        committed = λ t. open_committed (core.committed t);
        recorded = update_each b.release c R'
            (λ x R. is_live d x ≡ true → is_live d (backup x) ≡ true
            → Recorded x R (b.last x) (load (size_of d) m' (backup x)))
            (λ _ up. opened_recorded (core.recorded c live up))
            (λ x other lives up. recorded_kept x (b.release x) (b.last x) _ _
            (λ o in-record. record_word x (backup x) o
            (omega (arith, core.shape.below x lives, core.shape.few_cards)) in-record)
            (core.recorded x lives up));
        dead = λ g h o gone small up in-record.
            record_word g h o (omega (arith, core.shape.few_cards)) in-record
            ∙ core.dead g h o gone small up in-record;
      }
    where
      opened_recorded : Recorded c (b.release c) (b.last c) (load (size_of d) m (backup c))
          → Recorded c R' (b.last c) (load (size_of d) m' (backup c))
      opened_recorded recorded =
          let before = rw idle at recorded in
          recorded_kept c R' (b.last c) _ _ (λ o in-record. record_word c (backup c) o little in-record)
          (record {
            stamped = before.stamped;
            desked = before.desked;
            done = ((λ _. before.done), (λ late _. absurd (omega arith)), (λ late. absurd (omega arith)));
            parts = λ j within there soon. absurd (omega arith);
          })
