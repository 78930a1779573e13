-- A release that the book has is refused with 4 or 5 when it is sent again.
use Rattle.std.specs.Prelude.{ℕ, ◌≤◌, ◌≡◌, ◌⊎◌, List, [], ◌∷◌, true, drop}
use Rattle.laws.proofs.Prelude.{refl, ap, inl, inr, arith, le-leb, lt-leb}
use Rattle.answer.specs.declared.Outcome.{Outcome}
use Rattle.directory.specs.declared.Directory.{Directory}
use Rattle.directory.specs.Directory.{is_live}
use Rattle.directory.specs.NewHome.{HomeRule}
use Rattle.area.specs.Prelude.{Release, own_release}
use Rattle.protocol.specs.Release.{size_of}
use Rattle.protocol.specs.Checks.{first_refusal, awaits_recovery}
use Rattle.protocol.specs.Result.{Result}
use Rattle.protocol.specs.Opening.{opening, opening_checks, open_memory}
use Rattle.protocol.specs.Calls.{perform_by}
use Rattle.protocol.specs.Book.{Opened, none, opened, Book}
use Rattle.protocol.specs.Demand1.{is_among}
use Rattle.protocol.specs.Demand3.{Event, ByAnyRule}
use Rattle.protocol.specs.Corollaries.{OpenUnder, ResendRefused, ResendsRefusedBy}
use Rattle.protocol.proofs.invariant.Rack.{RunningRack, Rack}
use Rattle.protocol.proofs.checks.ByCall.{Fits}
use Rattle.protocol.proofs.checks.Outcome.{outcome_of_lem}
use Rattle.protocol.proofs.invariant.Running.{is_open, idle_word, own_is_last}
use Rattle.protocol.proofs.calls.Accepted.{running_rack}
use Rattle.protocol.proofs.invariant.Fits.{rack_fits}
use Rattle.protocol.proofs.demands.Demand3.{everywhere}

module _ (d : Directory) (m : List ℕ) (b : Book) (rack : RunningRack d m b) (fits : Fits d m) (c : ℕ)
    (live : is_live d c ≡ true) (r : Release) (list : List ℕ) where
  -- the checks before 4 pass
  number_is : (number : ℕ) → (first_refusal (drop 4 (opening_checks d m c r.number list)) 0).number ≡ number
      → (opening d m c r list).outcome.number ≡ number
  unfolding opening first_refusal awaits_recovery
  number_is number rest =
      let o : Outcome = first_refusal (opening_checks d m c r.number list) 0 in
      let done : Result = record { outcome = o; directory = d; memory = open_memory (size_of d) m c r list; words = [] }
      in
      rw (
        outcome_of_lem o done d m [] refl,
        fits.limits,
        fits.fit,
        rack.running,
        lt-leb d.cards c (rack.core.shape.below c live),
        live,
      )
      rest

  resent : (R : Opened) → b.release c ≡ R → (r.number ≤ (b.last c).number) ⊎ OpenUnder R r.number
      → is_among (4 ∷ 5 ∷ []) (opening d m c r list).outcome.number ≡ true
  unfolding first_refusal is_among
  resent none is (inl low) =
      let own : (own_release (size_of d) m c).number ≡ (b.last c).number =
      ap (λ (own : Release). own.number) (own_is_last d m b rack c live is) in
      rw (number_is 5 (rw (
        idle_word d m b rack c live is,
        le-leb r.number (own_release (size_of d) m c).number
            (omega arith),
      )))
  resent none is (inr nothing) = elim nothing [ ]
  resent (opened r' list' s) is taken = rw (number_is 4 (rw (is_open d m b rack c r' list' s is)))

resend_refused : (rule : HomeRule) (d : Directory) (b : Book) (e : Event) → Rack d e.found b
    → ResendRefused rule b d e
unfolding ResendRefused perform_by
resend_refused rule d b e rack card r list is running live taken =
    rw is
    (resent d e.found b (running_rack rack running) (rack_fits d e.found b rack) card live r list
    (b.release card) refl taken)

pub resends_refused : ByAnyRule ResendsRefusedBy
resends_refused rule good =
    everywhere rule good (ResendRefused rule) (λ d offline b e rack online typed. resend_refused rule d b e rack)
