-- The two cases of restoring a page, each a copy at the secondary, then at the primary.
use Rattle.std.specs.Prelude.{ℕ, ◌≡◌, List, Bool, true, false}
use Rattle.directory.specs.declared.Directory.{Directory}
use Rattle.directory.specs.Directory.{header_of, primary_of, secondary_of}
use Rattle.area.specs.Prelude.{tentative_half, committed_half}
use Rattle.protocol.specs.Recovery.{restore_home, restore_page}
use Rattle.recovery.specs.Rack.{copy_at_home}

module _ (d : Directory) (forward : Bool) (page : ℕ) (m : List ℕ) {once twice : List ℕ} where
  pub rolled_forward_lem : forward ≡ true
      → once ≡ copy_at_home (header_of d) (secondary_of d page) page tentative_half committed_half m
      → twice ≡ copy_at_home (header_of d) (primary_of d page) page tentative_half committed_half once
      → twice ≡ restore_page d forward page m
  unfolding restore_page restore_home copy_at_home
  rolled_forward_lem is at-secondary at-primary = rw (is, at-primary, at-secondary)

  pub rolled_back_lem : forward ≡ false
      → once ≡ copy_at_home (header_of d) (secondary_of d page) page committed_half tentative_half m
      → twice ≡ copy_at_home (header_of d) (primary_of d page) page committed_half tentative_half once
      → twice ≡ restore_page d forward page m
  unfolding restore_page restore_home copy_at_home
  rolled_back_lem is at-secondary at-primary = rw (is, at-primary, at-secondary)
