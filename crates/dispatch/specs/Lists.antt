-- The two dispatch lists in the code.
use Rattle.std.specs.Prelude.{◌≡◌}
use Rattle.dispatch.specs.declared.entries.Lists.{Lists}

-- The lists lie where they lay before.
abbrev pub SameLists : Lists → Lists → Type 0
SameLists before after = (after.first.ghost_name ≡ before.first.ghost_name) × (after.second.ghost_name ≡ before.second.ghost_name)
