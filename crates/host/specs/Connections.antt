-- What a call leaves alone in a host's record.
use Rattle.std.specs.Prelude.{◌≡◌}
use Rattle.host.specs.declared.reader.Connection.{Connection}

-- every field but the reader
pub record SameBeside (before after : Connection) : Type 0 where
  pub same_id : after.id ≡ before.id
  pub same_deadline : after.deadline ≡ before.deadline
