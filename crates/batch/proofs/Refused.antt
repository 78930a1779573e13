-- What a refused batch leaves. Rests on demand 1 of the single step, and on the order of the checks of a fetch of all
-- pages.
use Rattle.std.specs.Prelude.{ℕ, zero, suc, ◌+◌, ◌<◌, ◌≡◌, List, [], ◌∷◌, true, false, length}
use Rattle.laws.proofs.Prelude.{refl, true≢false, arith}
use Rattle.laws.proofs.Bools.{by_cond}
use Rattle.directory.specs.declared.Directory.{Directory}
use Rattle.directory.specs.NewHome.{even_home}
use Rattle.protocol.specs.Checks.{first_refusal}
use Rattle.protocol.specs.Result.{Result, accepted}
use Rattle.protocol.specs.Step.{step, step_checks}
use Rattle.protocol.specs.Calls.{make_step, perform_by}
use Rattle.protocol.specs.Demand1.{is_among}
use Rattle.protocol.proofs.checks.Outcome.{among}
use Rattle.protocol.proofs.calls.Refused.{refused_unchanged}
use Rattle.batch.specs.Steps.{Stepped, steps_from, steps, stepped_to}
use Rattle.batch.specs.FetchAll.{fetch_all_checks, fetch_all}
use Rattle.batch.specs.Demand1.{NoneFetched, AcceptedSteps, Stopped, BatchedDemand1}

refused-fetch : (d : Directory) (m buffer : List ℕ) → accepted (fetch_all d m buffer).outcome ≡ false
    → NoneFetched d buffer (fetch_all d m buffer)
unfolding fetch_all
refused-fetch d m buffer refused =
    record {
      numbered = among (fetch_all_checks d m (length buffer)) 0 refused;
      directory = refl;
      words = rw refused;
      shows_none = rw refused;
    }

-- a step hands the directory back, refused or not
step_directory : (d : Directory) (m : List ℕ) (card : ℕ) → (step d m card).directory ≡ d
unfolding step
step_directory d m card =
    by_cond (λ (r : Result). r.directory ≡ d) (accepted (first_refusal (step_checks d m card) 0)) _ _ (λ _. refl)
    (λ _. refl)

module _ (d : Directory) (card : ℕ) where
  -- so many steps are made already: a batch of so many more, which a refusal stopped
  record StoppedAfter (m : List ℕ) (left made : ℕ) (result : Stepped) : Type 0 where
    pub more : ℕ
    pub in_all : result.made ≡ made + more
    pub numbered : is_among (1 ∷ 2 ∷ 11 ∷ 3 ∷ 16 ∷ []) result.outcome.number ≡ true
    pub directory : result.directory ≡ d
    pub fewer : more < left
    pub stand : AcceptedSteps d card more m result.memory
    pub refused : (step d result.memory card).outcome ≡ result.outcome

  stopped_after : (left made : ℕ) (m : List ℕ) → accepted (steps_from card left made d m).outcome ≡ false
      → StoppedAfter m left made (steps_from card left made d m)
  unfolding steps_from AcceptedSteps perform_by
  stopped_after zero made m = λ refused. absurd (true≢false refused)
  stopped_after (suc left) made m =
      by_cond (λ (r : Stepped). accepted r.outcome ≡ false → StoppedAfter m (suc left) made r)
      (accepted (step d m card).outcome) _ _ (goes_on (stopped_after left (made + 1) (step d m card).memory)) stops
    where
      goes_on : (accepted (steps_from card left (made + 1) d (step d m card).memory).outcome ≡ false
          → StoppedAfter (step d m card).memory left (made + 1)
          (steps_from card left (made + 1) d (step d m card).memory))
          → accepted (step d m card).outcome ≡ true
          → accepted (steps_from card left (made + 1) (step d m card).directory (step d m card).memory).outcome
          ≡ false
          → StoppedAfter m (suc left) made
          (steps_from card left (made + 1) (step d m card).directory (step d m card).memory)
      goes_on rest taken =
          rw (step_directory d m card)
          (λ refused.
          let later = rest refused in
          record {
            more = suc later.more;
            in_all = omega (arith, later.in_all);
            numbered = later.numbered;
            directory = later.directory;
            fewer = omega (arith, later.fewer);
            stand = (taken, later.stand);
            refused = later.refused;
          })

      stops : accepted (step d m card).outcome ≡ false → accepted (step d m card).outcome ≡ false
          → StoppedAfter m (suc left) made
          (stepped_to made (step d m card).outcome (step d m card).directory (step d m card).memory)
      stops refused _ =
          let kept = refused_unchanged even_home (make_step card) d m refused in
          record {
            more = 0;
            in_all = omega arith;
            numbered = kept.numbered;
            directory = kept.directory;
            fewer = omega arith;
            stand = kept.memory;
            refused = rw kept.memory refl;
          }

refused-steps : (d : Directory) (m : List ℕ) (card count : ℕ) → accepted (steps d m card count).outcome ≡ false
    → Stopped d m card count (steps d m card count)
refused-steps d m card count refused =
    let stopped = stopped_after d card count 0 m refused in
    let all : (steps d m card count).made ≡ stopped.more = omega (arith, stopped.in_all) in
    record {
      numbered = stopped.numbered;
      directory = stopped.directory;
      fewer = rw all stopped.fewer;
      stand = rw all stopped.stand;
      refused = stopped.refused;
    }

pub batched_demand_1 : BatchedDemand1
batched_demand_1 = record { fetches = refused-fetch; batches = refused-steps }
