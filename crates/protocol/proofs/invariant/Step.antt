-- The invariant survives a step of any open release: its writes, and its close.
use Rattle.std.specs.Prelude.{ℕ, suc, ◌+◌, ◌*◌, ◌≤◌, ◌<◌, ◌≡◌, ◌≢◌, ◌⊎◌, List, true, false, length}
use Rattle.laws.proofs.Prelude.{refl, sym, ◌∙◌, subst, inl, inr, false≢true, arith, ℕ_discrete, dec_lt}
use Rattle.directory.specs.declared.Directory.{Directory}
use Rattle.directory.specs.Directory.{is_live}
use Rattle.area.specs.Prelude.{load, Release, own_release, desk_size, records_start, pages_start}
use Rattle.area.proofs.Prelude.{SameOwn, In, NotIn, record_region, list_region}
use Rattle.diff.proofs.Prices.{names_none}
use Rattle.protocol.specs.Release.{size_of, step_memory, close, counts_at, steps_in}
use Rattle.protocol.specs.Book.{Opened, none, opened, list_prices, Book, update, set_open, step_book}
use Rattle.protocol.proofs.release.Shape.{shape_kept, area_of_live}
use Rattle.protocol.proofs.release.Step.{step_closes}
use Rattle.protocol.proofs.release.Close.{length-close, load-close, close_keeps_own, close_own, close_flag}
use Rattle.protocol.proofs.book.Changes.{EightWords, update_same, update_other, update_each, step_book_plain}
use Rattle.protocol.proofs.book.Changes.{step_book_counts, step_book_closes}
use Rattle.protocol.proofs.claims.Claim.{Disjoint}
use Rattle.protocol.proofs.claims.Step.{close_tentatives, close_committeds}
use Rattle.protocol.proofs.records.Recorded.{Numbers, Own, Recorded, recorded_kept, close_recorded}
use Rattle.protocol.proofs.invariant.Core.{Core, OpenStands, Standing, Under, standing_kept, write_core}

-- releases that stay disjoint when one is cleared
pub disjoint_cleared : (release : ℕ → Opened) (c : ℕ) → Disjoint release → Disjoint (update release c none)
disjoint_cleared release c apart x y label other named =
    elim (ℕ_discrete y c) [
      | yes same ↦ rw (same, update_same release c none) (names_none label)
      | no elsewhere ↦ elim (ℕ_discrete x c) [
        | yes same ↦ absurd (false≢true (sym (names_none label) ∙ (rw (same, update_same release c none) at named)))
        | no far ↦ rw (update_other release c none y elsewhere)
            (apart x y label other (rw (update_other release c none x far) at named))
      ]
    ]

module _ (d : Directory) (backup : ℕ → ℕ) (old : ℕ → ℕ → ℕ) (T C : Type 0) (m : List ℕ) (b : Book)
    (core : Core d backup old T C m b) (c : ℕ) (live : is_live d c ≡ true) (r : Release) (list : List ℕ) (s : ℕ)
    (is : b.release c ≡ opened r list s) where
  few : c < 8
  few = omega (arith, core.shape.below c live, core.shape.few_cards)

  small : (x : ℕ) → is_live d x ≡ true → x < 8
  small x up = omega (arith, core.shape.below x up, core.shape.few_cards)

  standing : OpenStands d.pages m c r list s
  standing = rw is at (core.standing c live)

  eight : length r.desk ≡ desk_size
  eight = rw is at (core.eights c)

  -- ---- the close

  module _ (past : s ≡ 4 * length (list_prices list) + 10) where
    abbrev m' : List ℕ
    m' = close (size_of d) m c

    elsewhere : (h o : ℕ) → o < size_of d → (h ≢ c) ⊎ ((records_start ≤ o) × NotIn list_region o)
        → load (size_of d) m' h o ≡ load (size_of d) m h o
    elsewhere = load-close (size_of d) m c (omega arith) (rw standing.stands.release eight)

    kept_other : (x : ℕ) → x ≢ c → SameOwn (size_of d) m m' x
    kept_other x other =
        record {
          same_length = length-close (size_of d) m c (omega arith);
          low = λ o low. elsewhere x o (omega arith) (inl other);
          list = λ o inside. elsewhere x o (omega arith) (inl other);
        }

    kept_record : (x h o : ℕ) → x < 8 → In (record_region x) o
        → load (size_of d) m' h o ≡ load (size_of d) m h o
    kept_record x h o little in-record = elsewhere h o (omega arith) (inr (omega arith, (λ here. omega arith)))

    kept_page : (h o : ℕ) → pages_start ≤ o → o < size_of d → load (size_of d) m' h o ≡ load (size_of d) m h o
    kept_page h o above inside = elsewhere h o inside (inr (omega arith, (λ here. omega arith)))

    own_last : own_release (size_of d) m' c ≡ b.last c
    own_last =
        close_own (size_of d) m c (omega arith) (rw standing.stands.release eight)
        (area_of_live core.shape c live)
        ∙ standing.stands.release ∙ sym ((rw is at (core.numbers c)).1 (omega arith))

    pub close_core : Core d backup old T C m' (set_open b c none)
    close_core =
        record {
          shape = shape_kept core.shape m' (length-close (size_of d) m c (omega arith));
          standing = update_each b.release c none (λ x R. is_live d x ≡ true → Standing d.pages m' x R)
              (λ _. close_flag (size_of d) m c (omega arith) (rw standing.stands.release eight)
              (area_of_live core.shape c live))
              (λ x other up. standing_kept d.pages m m' x (b.release x) (kept_other x other)
              (core.standing x up));
          gone = update_each b.release c none (λ x R. is_live d x ≡ false → R ≡ none) (λ _. refl)
              (λ x other. core.gone x);
          under = update_each b.release c none (λ x R. Under R) tt (λ x other. core.under x);
          eights = update_each b.release c none (λ x R. EightWords R) tt (λ x other. core.eights x);
          last_eight = core.last_eight;
          disjoint = disjoint_cleared b.release c core.disjoint;
          numbers = update_each b.release c none (λ x R. Numbers R (b.last x)) tt (λ x other. core.numbers x);
          owns = update_each b.release c none
              (λ x R. is_live d x ≡ true → Own R (own_release (size_of d) m' x) (b.last x))
              (λ _. own_last)
              (λ x other up. rw
              (close_keeps_own (size_of d) m c (omega arith) (rw standing.stands.release eight) x other)
              (core.owns x up));
          tentative = λ t.
              close_tentatives d backup b.release b.price m m' c few core.eights core.disjoint r list s is
              (omega arith)
              (λ h p w word. kept_page h _ (omega arith) (omega (arith, word.page, word.word))) (core.tentative t);
          committed = λ t.
              close_committeds d backup b.release b.price m m' c few core.eights core.disjoint r list s is
              (omega arith)
              (λ h p w word. kept_page h _ (omega arith) (omega (arith, word.page, word.word))) (core.committed t);
          recorded = update_each b.release c none
              (λ x R. is_live d x ≡ true → is_live d (backup x) ≡ true
              → Recorded x R (b.last x) (load (size_of d) m' (backup x)))
              (λ _ up. close_recorded c r list s (b.last c) _ _ (omega arith)
              (λ o in-record. kept_record c (backup c) o few in-record) (rw is at (core.recorded c live up)))
              (λ x other lives up. recorded_kept x (b.release x) (b.last x) _ _
              (λ o in-record. kept_record x (backup x) o (small x lives) in-record) (core.recorded x lives up));
          dead = λ g h o gone little up in-record.
              kept_record g h o (omega (arith, core.shape.few_cards)) in-record
              ∙ core.dead g h o gone little up in-record;
        }

  -- ---- any step

  write_step : (before : s < 4 * length (list_prices list) + 10)
      → Core d backup old T C (step_memory d (backup c) m c) (step_book b c (opened r list s))
  write_step before =
      elim (ℕ_discrete (suc s) (counts_at (length (list_prices list)))) [
        | yes counts ↦ subst (Core d backup old T C (step_memory d (backup c) m c))
            (sym (step_book_counts b c r list s counts))
            (write_core d backup old T C m b core c live r list s is before _ _
            (record { counts = λ _ label. refl; plain = λ no. absurd (no counts) })
            (record { counts = λ _. update_same b.last c r; plain = λ no. absurd (no counts) })
            (update_other b.last c r))
        | no plain ↦ subst (Core d backup old T C (step_memory d (backup c) m c))
            (sym (step_book_plain b c r list s plain (omega arith)))
            (write_core d backup old T C m b core c live r list s is before _ _
            (record { counts = λ yes. absurd (plain yes); plain = λ _ label. refl })
            (record { counts = λ yes. absurd (plain yes); plain = λ _. refl }) (λ x other. refl))
      ]

  pub step_core : Core d backup old T C (step_memory d (backup c) m c) (step_book b c (opened r list s))
  step_core =
      let below : s < steps_in (length (list_prices list)) = rw is at (core.under c) in
      elim (dec_lt s (4 * length (list_prices list) + 10)) [
        | yes before ↦ write_step before
        | no late ↦
            let past : s ≡ 4 * length (list_prices list) + 10 = omega arith in
            rw (step_closes d (backup c) m c (area_of_live core.shape c live) standing.stands past)
            (subst (Core d backup old T C (close (size_of d) m c)) (sym (step_book_closes b c r list s (omega arith)))
            (close_core past))
      ]
