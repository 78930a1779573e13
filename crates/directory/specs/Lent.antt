-- A directory whose homes are lent.
use Rattle.directory.specs.declared.Directory.{Directory}
use Rattle.directory.specs.declared.lent.LentDirectory.{LentDirectory}
use Rattle.directory.specs.Directory.{directory_by}

-- the directory itself
abbrev pub lent : LentDirectory → Directory
lent d = directory_by d.header d.primary.now d.secondary.now
