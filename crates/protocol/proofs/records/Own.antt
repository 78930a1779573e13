-- Records of cards made from their own stamps and desks, on the cards that are to hold them, where they are due.
use Rattle.std.specs.Prelude.{ℕ, zero, suc, ◌≤◌, ◌<◌, ◌≡◌, ◌≢◌, ◌⊎◌, List, Bool, true, false, cond, length}
use Rattle.laws.proofs.Prelude.{refl, sym, ap, ◌∙◌, inl, inr, true≢false, arith, ℕ_discrete}
use Rattle.laws.specs.Search.{in_turn}
use Rattle.area.specs.Prelude.{AreaIn, load, own_release, write_record, write_own_record, desk_size, records_start, list_start}
use Rattle.area.specs.Prelude.{pages_start}
use Rattle.area.proofs.Prelude.{own_words_kept, length_record, load_beside_record, In, NotIn, record_region}
use Rattle.area.proofs.Prelude.{records_apart}
use Rattle.protocol.specs.Book.{none}
use Rattle.protocol.proofs.records.Recorded.{Recorded, recorded_kept}
use Rattle.protocol.proofs.records.Settled.{settled_recorded}

-- after the cards below n
pub record OwnBelow (size : ℕ) (due : ℕ → Bool) (holder : ℕ → ℕ) (n : ℕ) (m m' : List ℕ) : Type 0 where
  pub same_length : length m' ≡ length m
  -- the own words, the lists and pages, and the records that are not due
  pub low : (h o : ℕ) → o < records_start → load size m' h o ≡ load size m h o
  pub high : (h o : ℕ) → list_start ≤ o → o < size → load size m' h o ≡ load size m h o
  pub records : (g h o : ℕ) → g < 8 → due g ≡ false → In (record_region g) o → load size m' h o ≡ load size m h o
  -- every word of a card that is to hold none
  pub elsewhere : (h o : ℕ) → o < size → ((c : ℕ) → due c ≡ true → h ≢ holder c) → load size m' h o ≡ load size m h o
  pub recorded : (c : ℕ) → c < n → due c ≡ true → Recorded c none (own_release size m c) (load size m' (holder c))

module _ (size : ℕ) (long : pages_start ≤ size) (due : ℕ → Bool) (holder : ℕ → ℕ) (m : List ℕ)
    (small : (c : ℕ) → due c ≡ true → c < 8)
    (areas : (c : ℕ) → due c ≡ true → AreaIn (length m) size (holder c))
    (eights : (c : ℕ) → due c ≡ true → length (own_release size m c).desk ≡ desk_size) where
  own_more : (n : ℕ) (m' : List ℕ) → OwnBelow size due holder n m m'
      → OwnBelow size due holder (suc n) m (write_own_record size due holder n m')
  unfolding write_own_record
  own_more n m' below = go (due n) refl
    where
      own : own_release size m' n ≡ own_release size m n
      own = own_words_kept size m m' n below.same_length (λ o own. below.low n o (omega arith))

      go : (writes : Bool) → due n ≡ writes
          → OwnBelow size due holder (suc n) m
          (cond writes (write_record size m' (holder n) n (own_release size m' n)) m')
      go true is =
          let few = small n is in
          let eight = eights n is in
          rw own
          (record {
            same_length = length_record size m' (holder n) n (own_release size m n) long few eight ∙ below.same_length;
            low = λ h o less. other h o (omega arith) (inr (λ here. omega arith)) ∙ below.low h o less;
            high = λ h o more inside. other h o inside (inr (λ here. omega (arith, few))) ∙ below.high h o more inside;
            records = λ g h o little not_due in-record.
                other h o (omega arith)
                (inr (records_apart (λ e. true≢false (sym is ∙ ap due (sym e) ∙ not_due)) in-record))
                ∙ below.records g h o little not_due in-record;
            elsewhere = λ h o inside none_here. other h o inside (inl (none_here n is))
                ∙ below.elsewhere h o inside none_here;
            recorded = λ c less is_due. at c less is_due (ℕ_discrete c n);
          })
        where
          other : (h o : ℕ) → o < size → (h ≢ holder n) ⊎ NotIn (record_region n) o
              → load size (write_record size m' (holder n) n (own_release size m n)) h o ≡ load size m' h o
          other = load_beside_record size m' (holder n) n (own_release size m n) long (small n is) (eights n is)

          at : (c : ℕ) → c < suc n → due c ≡ true → Dec (c ≡ n)
              → Recorded c none (own_release size m c)
              (load size (write_record size m' (holder n) n (own_release size m n)) (holder c))
          at c less is_due (yes same) =
              rw same
              (settled_recorded size m' (holder n) n (own_release size m n) long (small n is) (eights n is)
              (rw below.same_length (areas n is)))
          at c less is_due (no differs) =
              recorded_kept c none (own_release size m c) _ _
              (λ o in-record. other (holder c) o (omega (arith, small c is_due))
              (inr (records_apart differs in-record)))
              (below.recorded c (omega arith) is_due)
      go false is-not =
          record {
            same_length = below.same_length;
            low = below.low;
            high = below.high;
            records = below.records;
            elsewhere = below.elsewhere;
            recorded = λ c less is_due.
                elim (ℕ_discrete c n) [
                  | yes same ↦ absurd (true≢false (sym is_due ∙ rw same is-not))
                  | no differs ↦ below.recorded c (omega arith) is_due
                ];
          }

  pub own_below : (n : ℕ) → OwnBelow size due holder n m (in_turn (write_own_record size due holder) n m)
  unfolding in_turn
  own_below zero =
      record {
        same_length = refl;
        low = λ h o less. refl;
        high = λ h o more inside. refl;
        records = λ g h o little not_due in-record. refl;
        elsewhere = λ h o inside none_here. refl;
        recorded = λ c less is_due. absurd (omega arith);
      }
  own_below (suc n) = own_more n _ (own_below n)
