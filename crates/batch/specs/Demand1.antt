-- Demand 1 over the definitions of the batched calls ("a refusal changes no word of what was lent"), and its one
-- exception: a refusal stops a batch of steps, and the steps that were made before it stand. Each of these is a call of
-- its own to document 01, accepted as the single step accepts it.
-- Assumes nothing: these are definitions.
use Rattle.std.specs.Prelude.{ℕ, zero, suc, ◌<◌, ◌≡◌, List, [], ◌∷◌, true, false, replicate}
use Rattle.directory.specs.declared.Directory.{Directory}
use Rattle.protocol.specs.Result.{accepted}
use Rattle.protocol.specs.Step.{step}
use Rattle.protocol.specs.Demand1.{is_among}
use Rattle.batch.specs.Steps.{Stepped, steps}
use Rattle.batch.specs.FetchAll.{AllFetched, fetch_all}

-- a refused fetch of all pages: directory and buffer as they came, and no page shown
pub record NoneFetched (d : Directory) (buffer : List ℕ) (result : AllFetched) : Type 0 where
  pub numbered : is_among (1 ∷ 2 ∷ 11 ∷ 17 ∷ []) result.outcome.number ≡ true
  pub directory : result.directory ≡ d
  pub words : result.pages.words ≡ buffer
  pub shows_none : result.pages.shown ≡ replicate 64 false

-- so many single steps of a card, one after the other, are all accepted and turn one memory into another; where there
-- are none, the two are the same
unfoldable pub AcceptedSteps : Directory → ℕ → ℕ → List ℕ → List ℕ → Type 0
AcceptedSteps d card zero before after = after ≡ before
AcceptedSteps d card (suc n) before after =
    (accepted (step d before card).outcome ≡ true) × AcceptedSteps d card n (step d before card).memory after

-- a batch of steps that a refusal stopped: fewer are made than asked for, those stand, and the single step after them
-- is the one that is refused
pub record Stopped (d : Directory) (m : List ℕ) (card count : ℕ) (result : Stepped) : Type 0 where
  pub numbered : is_among (1 ∷ 2 ∷ 11 ∷ 3 ∷ 16 ∷ []) result.outcome.number ≡ true
  pub directory : result.directory ≡ d
  pub fewer : result.made < count
  pub stand : AcceptedSteps d card result.made m result.memory
  pub refused : (step d result.memory card).outcome ≡ result.outcome

pub record BatchedDemand1 : Type 0 where
  pub fetches :
      (d : Directory) (m buffer : List ℕ) → accepted (fetch_all d m buffer).outcome ≡ false
      → NoneFetched d buffer (fetch_all d m buffer)
  pub batches :
      (d : Directory) (m : List ℕ) (card count : ℕ) → accepted (steps d m card count).outcome ≡ false
      → Stopped d m card count (steps d m card count)
