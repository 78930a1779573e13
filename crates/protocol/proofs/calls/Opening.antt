-- An accepted opening leaves a rack that runs, beside the book that has the release open.
use Rattle.std.specs.Prelude.{ℕ, ◌≤◌, ◌≡◌, ◌≢◌, List, [], ◌∷◌, Bool, true, false, cond, not, length, eqb}
use Rattle.laws.proofs.Prelude.{refl, sym, ap, ◌∙◌, true≢false, arith, ne_eqb, inl}
use mathlib.Core.List.{append-nil}
use Rattle.laws.proofs.Bools.{and_rest}
use Rattle.directory.specs.declared.Directory.{Directory}
use Rattle.directory.specs.Directory.{is_live, backup_of}
use Rattle.area.specs.Prelude.{Release, desk_size, list_size}
use Rattle.diff.specs.declared.Price.{Price}
use Rattle.diff.specs.Prices.{label_of, names, prices_of}
use Rattle.diff.proofs.Prices.{names_none}
use Rattle.diff.proofs.OnlyDiff.{allowed_few}
use Rattle.protocol.specs.Release.{size_of}
use Rattle.protocol.specs.Opening.{share_word, shares_with, open_memory, opening, opening_checks}
use Rattle.protocol.specs.Book.{Opened, none, opened, list_prices, Book, set_open, transition, prices_in}
use Rattle.protocol.specs.Calls.{start_release}
use Rattle.protocol.specs.Result.{accepted}
use Rattle.protocol.specs.Demand3.{offline_after, Conforms}
use Rattle.protocol.proofs.invariant.Core.{OpenStands}
use Rattle.protocol.proofs.release.Opening.{stored_prices}
use Rattle.protocol.proofs.invariant.Opening.{open_core}
use Rattle.protocol.proofs.invariant.Rack.{RunningRack, Rack, LiveOnline}
use Rattle.protocol.proofs.checks.ByCall.{OpeningPassed, opening_passed}
use Rattle.protocol.proofs.invariant.Running.{stands_open, is_open, none_if_idle, own_is_last, runs_on}
use Rattle.protocol.proofs.calls.Accepted.{AcceptedCall, accepted_by_checks, running_if_passed}

-- lists that share no word
pub unshared_names : (ps others : List Price) (label : ℕ) → share_word ps others ≡ false → names others label ≡ true
    → names ps label ≡ false
unfolding share_word names
unshared_names [] others label apart named = refl
unshared_names (p ∷ ps) others label apart named =
    go (names others (label_of p)) refl apart (λ apart. unshared_names ps others label apart named)
  where
    go : (shared : Bool) → names others (label_of p) ≡ shared → cond shared true (share_word ps others) ≡ false
        → (share_word ps others ≡ false → names ps label ≡ false)
        → cond (eqb (label_of p) label) true (names ps label) ≡ false
    go true shared apart rest = absurd (true≢false apart)
    go false other apart rest =
        rw (ne_eqb (label_of p) label (λ same. true≢false (sym named ∙ (rw same at other)))) (rest apart)

module _ (d : Directory) (m : List ℕ) (b : Book) (rack : RunningRack d m b) (c : ℕ) (r : Release) (list : List ℕ)
    (eight : length r.desk ≡ desk_size) (passed : OpeningPassed d m c r.number list) where
  idle : b.release c ≡ none
  idle = none_if_idle d m b rack c passed.idle

  few : length list ≤ list_size
  few = allowed_few d.pages list passed.allowed

  list_prices_lem : prices_of d.pages list ≡ list_prices list
  list_prices_lem =
      rw (append-nil list) at
      (stored_prices d.pages list [] rack.core.shape.few_pages few passed.allowed)

  free : (x label : ℕ) → x ≢ c → names (list_prices list) label ≡ true → names (prices_in (b.release x)) label ≡ false
  unfolding shares_with
  free x label other named = go (b.release x) refl
    where
      go : (R : Opened) → b.release x ≡ R → names (prices_in R) label ≡ false
      go none is = names_none label
      go (opened r' list' s) is =
          let stands = stands_open d m b rack x r' list' s is in
          unshared_names (list_prices list') (list_prices list) label (apart stands) named
        where
          apart : (is_live d x ≡ true) × OpenStands d.pages m x r' list' s
              → share_word (list_prices list') (list_prices list) ≡ false
          apart stands =
              rw (is_open d m b rack x r' list' s is, stands.1.stands.prices, list_prices_lem) at
              (and_rest (not (eqb x c)) _ (ap not (ne_eqb x c other))
              (passed.unshared x (rack.core.shape.below x stands.0)))

  pub opening_runs : RunningRack d (open_memory (size_of d) m c r list) (set_open b c (opened r list 0))
  opening_runs =
      runs_on d m b rack _ _
      (open_core d (backup_of d) _ _ _ m b rack.core c passed.live idle r list eight few passed.allowed
      (omega
      (arith, passed.next, ap (λ (own : Release). own.number) (own_is_last d m b rack c passed.live idle))) free)
      (λ g dead. refl)

module _ (d : Directory) (m : List ℕ) (b : Book) (offline : ℕ → Bool) (rack : Rack d m b)
    (online : LiveOnline d offline) where
  pub opening-accepted : (c : ℕ) (r : Release) (list : List ℕ) → length r.desk ≡ desk_size
      → accepted (opening d m c r list).outcome ≡ true
      → AcceptedCall (start_release c r list) offline b (opening d m c r list)
  unfolding opening Conforms transition offline_after
  opening-accepted c r list eight =
      accepted_by_checks d m b offline rack online (start_release c r list) (opening_checks d m c r.number list) 0 _
      [] refl refl
      (λ p.
      let passed = opening_passed d m c r.number list p in
      record {
        conforms = tt;
        rack =
            inl (opening_runs d m b (running_if_passed d m b offline rack online passed.runs) c r list eight passed);
        online = online;
      })
