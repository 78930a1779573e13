-- The invariant speaks of the words of live cards alone.
use Rattle.std.specs.Prelude.{ℕ, ◌+◌, ◌≤◌, ◌<◌, ◌≡◌, List, true, length}
use Rattle.laws.proofs.Prelude.{◌∙◌, arith}
use Rattle.directory.specs.declared.Directory.{Directory}
use Rattle.directory.specs.Directory.{is_live}
use Rattle.area.specs.Prelude.{load, page_at, page_size}
use Rattle.area.proofs.Prelude.{SameOwn, own_kept, same_own_release, In, record_region}
use Rattle.protocol.specs.Release.{size_of}
use Rattle.protocol.specs.Book.{Book}
use Rattle.protocol.proofs.release.Shape.{shape_kept}
use Rattle.protocol.proofs.claims.Claim.{HomeWord, claim_kept}
use Rattle.protocol.proofs.claims.Halves.{tentatives, committeds}
use Rattle.protocol.proofs.records.Recorded.{recorded_kept}
use Rattle.protocol.proofs.invariant.Core.{Core, standing_kept}

-- ---- two memories that agree in the areas of live cards

pub record SameLive (d : Directory) (m m' : List ℕ) : Type 0 where
  pub same_length : length m' ≡ length m
  pub same : (h o : ℕ) → is_live d h ≡ true → o < size_of d → load (size_of d) m' h o ≡ load (size_of d) m h o

pub same_live_own : {d : Directory} {m m' : List ℕ} → SameLive d m m' → (c : ℕ) → is_live d c ≡ true
    → SameOwn (size_of d) m m' c
same_live_own agree c live =
    record {
      same_length = agree.same_length;
      low = λ o small. agree.same c o live (omega arith);
      list = λ o inside. agree.same c o live (omega arith);
    }

module _ (d : Directory) (backup : ℕ → ℕ) (old : ℕ → ℕ → ℕ) (T C T' C' : Type 0) (m m' : List ℕ) (b : Book)
    (agree : SameLive d m m') where
  pub core_found : (T' → T) → (C' → C) → Core d backup old T C m b → Core d backup old T' C' m' b
  core_found first second core =
      record {
        shape = shape_kept core.shape m' agree.same_length;
        standing = λ c live. standing_kept d.pages m m' c (b.release c) (same_live_own agree c live)
            (core.standing c live);
        gone = core.gone;
        under = core.under;
        eights = core.eights;
        last_eight = core.last_eight;
        disjoint = core.disjoint;
        numbers = core.numbers;
        owns = λ c live.
            rw (own_kept (size_of d) m m' c (same_own_release (size_of d) m m' c (same_live_own agree c live)))
            (core.owns c live);
        tentative = λ t.
            claim_kept d d (tentatives d backup) (tentatives d backup) b.release b.price m m'
            (λ c h p w word. word)
            (λ c h p w v word agrees. agrees) (λ h p w word. word_in_page h p w word _ (omega arith))
            (core.tentative (first t));
        committed = λ t.
            claim_kept d d (committeds d backup) (committeds d backup) b.release b.price m m'
            (λ c h p w word. word)
            (λ c h p w v word agrees. agrees) (λ h p w word. word_in_page h p w word _ (omega arith))
            (core.committed (second t));
        recorded = λ c live up. recorded_kept c (b.release c) (b.last c) _ _
            (λ o in-record. record_word c o live up in-record) (core.recorded c live up);
        dead = λ g h o gone little up in-record.
            agree.same h o up (omega (arith, core.shape.few_cards)) ∙ core.dead g h o gone little up in-record;
      }
    where
      word_in_page : (h p w : ℕ) → HomeWord d h p w → (half : ℕ) → half ≤ page_size
          → load (size_of d) m' h (page_at p + (half + w)) ≡ load (size_of d) m h (page_at p + (half + w))
      word_in_page h p w word half small = agree.same h _ word.live (omega (arith, word.page, word.word))

      record_word : (c o : ℕ) → is_live d c ≡ true → is_live d (backup c) ≡ true → In (record_region c) o
          → load (size_of d) m' (backup c) o ≡ load (size_of d) m (backup c) o
      record_word c o live up in-record =
          agree.same (backup c) o up (omega (arith, core.shape.below c live, core.shape.few_cards))
