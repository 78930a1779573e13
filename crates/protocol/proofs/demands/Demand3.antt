-- The proof of demand 3: the invariant holds of a formatted rack, is found again by each call, and each call keeps it.
use Rattle.std.specs.Prelude.{ℕ, ◌≡◌, List, [], ◌∷◌, Bool, true, false, cond, length}
use Rattle.laws.proofs.Prelude.{refl, inl}
use Rattle.directory.specs.declared.Directory.{Directory}
use Rattle.directory.specs.NewHome.{HomeRule, NamesLive}
use Rattle.protocol.specs.Result.{accepted}
use Rattle.protocol.specs.Book.{Book, new_book, transition_if}
use Rattle.protocol.specs.Demand3.{offline_after, Event, Typed, Conforms, answer_to, Always, Everywhere}
use Rattle.protocol.specs.Demand3.{Demand3By, ByAnyRule}
use Rattle.protocol.proofs.invariant.Rack.{Rack, LiveOnline}
use Rattle.protocol.proofs.invariant.Found.{rack_found, interference_live}
use Rattle.protocol.proofs.invariant.Formatted.{formatted}
use Rattle.protocol.proofs.calls.Formatting.{formatting-accepted}
use Rattle.protocol.proofs.calls.Refused.{refused_unchanged}
use Rattle.protocol.proofs.calls.Each.{each_accepted}

-- what holds of every rack that agrees with its book holds always
module _ (rule : HomeRule) (good : NamesLive rule) (P : Book → Directory → Event → Type 0)
    (each : (d : Directory) (offline : ℕ → Bool) (b : Book) (e : Event) → Rack d e.found b → LiveOnline d offline
    → Typed e.call
    → P b d e) where
  always : (d : Directory) (left : List ℕ) (offline : ℕ → Bool) (b : Book) (events : List Event) → Rack d left b
      → LiveOnline d offline
      → Always rule P d left offline b events
  unfolding Always
  always d left offline b [] rack online = tt
  always d left offline b (e ∷ es) rack online = λ typed interference.
      let found = rack_found d left e.found b (interference_live rack online interference) rack in (
        each d offline b e found online typed,
        go typed found (accepted (answer_to rule d e).outcome) refl (λ d m offline b. always d m offline b es),
      )
    where
      go : Typed e.call → Rack d e.found b → (taken : Bool) → accepted (answer_to rule d e).outcome ≡ taken
          → ((d : Directory) (m : List ℕ) (offline : ℕ → Bool) (b : Book) → Rack d m b → LiveOnline d offline
          → Always rule P d m offline b es)
          → Always rule P (answer_to rule d e).directory (answer_to rule d e).memory
          (cond taken (offline_after e.call offline) offline)
          (transition_if taken e.call b) es
      go typed found true ok rest =
          let after = each_accepted d e.found b offline found online rule good e.call typed ok in
          rest _ _ _ _ after.rack after.online
      go typed found false refused rest =
          let same = refused_unchanged rule e.call d e.found refused in
          rw (same.directory, same.memory) (rest _ _ _ _ found online)

  pub everywhere : Everywhere rule P
  everywhere m cards pages ok events =
      formatting-accepted (λ d left. Always rule P d left (λ card. false) new_book events) m cards pages
      (λ limits. always _ _ _ new_book events (inl (formatted cards pages (length m) limits)) (λ c live. refl)) ok

pub demand_3 : ByAnyRule Demand3By
demand_3 rule good =
    everywhere rule good
    (λ b d e. accepted (answer_to rule d e).outcome ≡ true → Conforms b e.call (answer_to rule d e))
    (λ d offline b e rack online typed ok. (each_accepted d e.found b offline rack online rule good
    e.call typed ok).conforms)
