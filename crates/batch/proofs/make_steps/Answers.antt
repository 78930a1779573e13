-- Rests on what `release::make_steps` ensures of the directory that is lent.
use Rattle.batch.proofs.make_steps.Goals as goal

pub make_steps-requires : goal.make_steps-requires
make_steps-requires c =
    let pre = c.requires in
    let lent = c.lend.ensures in
    rw (lent.header, lent.primary, lent.secondary)
    record {
      homes_in = pre.homes_of;
      card_in = pre.card_in;
      backup_in = rw c.backup-backup.ensures pre.backup_in;
      good_release = pre.good_release;
    }

pub returns : goal.returns
returns c =
    let lent = c.lend.ensures in
    rw (c.backup-backup.ensures, lent.header, lent.primary, lent.secondary) at c.make_steps.ensures
