-- A formatted directory is blank past its cards and pages, and so is the one of a refused formatting.
use Rattle.std.specs.Prelude.{ℕ, ◌<◌, ◌≡◌, List, [], ◌∷◌, Bool, true, false, length, get_or, replicate}
use Rattle.laws.proofs.Prelude.{refl, sym, ◌∙◌, arith, dec_lt, le-ltb}
use lib.ListN.{get_or-replicate}
use Rattle.answer.specs.Outcome.{limits}
use Rattle.directory.specs.Directory.{table, formatted_primary, formatted_secondary, formatted_directory, empty_directory}
use Rattle.directory.proofs.Table.{table-length, table_read, read_past_end}
use Rattle.protocol.specs.Checks.{Check, check, first_refusal, outside_limits}
use Rattle.protocol.specs.Result.{accepted}
use Rattle.protocol.specs.Formatting.{formatting}
use Rattle.protocol.specs.PastLimits.{BlankPast}
use Rattle.protocol.proofs.checks.Outcome.{when_accepted}
use Rattle.protocol.proofs.demands.Demand1.{demand_1}

-- an array of n that is blank at k, or ends before it
blank_at : {A : Type 0} (l : List A) (n k : ℕ) (blank : A) → length l ≡ n → (k < n → get_or l k blank ≡ blank)
    → get_or l k blank ≡ blank
blank_at l n k blank long is =
    elim (dec_lt k n) [
      | yes within ↦ is within
      | no past ↦ sym (read_past_end l n k blank long (omega arith))
    ]

table_blank : {A : Type 0} (f : ℕ → A) (n k : ℕ) (blank : A) → f k ≡ blank → get_or (table f n) k blank ≡ blank
table_blank f n k blank is =
    blank_at (table f n) n k blank (table-length f n) (λ within. table_read f n k blank within ∙ is)

formatted_blank : (cards pages : ℕ) → BlankPast (formatted_directory cards pages)
unfolding formatted_directory
formatted_blank cards pages =
    record {
      dead = λ c past. table_blank _ 8 c false (le-ltb c cards past);
      primaries = λ p past. table_blank (formatted_primary cards pages) 64 p 0 (rw (le-ltb p pages past));
      secondaries = λ p past. table_blank (formatted_secondary cards pages) 64 p 0 (rw (le-ltb p pages past));
    }

empty_blank : BlankPast empty_directory
unfolding empty_directory
empty_blank =
    record {
      dead = λ c _. blank_at (replicate 8 false) 8 c false refl (get_or-replicate 8 c false false);
      primaries = λ p _. blank_at (replicate 64 0) 64 p 0 refl (get_or-replicate 64 p 0 0);
      secondaries = λ p _. blank_at (replicate 64 0) 64 p 0 refl (get_or-replicate 64 p 0 0);
    }

pub blank_past : (m : List ℕ) (cards pages : ℕ) → BlankPast (formatting m cards pages).directory
unfolding formatting
blank_past m cards pages = go (accepted (formatting m cards pages).outcome) refl
  where
    checks : List Check
    checks = check (outside_limits (length m) cards pages) limits ∷ []

    go : (taken : Bool) → accepted (formatting m cards pages).outcome ≡ taken
        → BlankPast (formatting m cards pages).directory
    go true ok = rw (when_accepted (first_refusal checks 0) _ _ m [] refl ok).1 (formatted_blank cards pages)
    go false refused = rw (demand_1.formats m cards pages refused).directory empty_blank
