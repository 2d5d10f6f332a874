-- The bytes that a value of bytes stands for.
use Rattle.std.specs.Prelude.{ℕ, List}
use Rattle.dh_texts.specs.declared.text.Storage.{Storage}
use Rattle.dh_texts.specs.declared.text.Storage.TheVariants.{Owned, Shared}

-- the bytes, whether one value owns them or several share them
abbrev pub stored_bytes : Storage → List ℕ
stored_bytes (Owned bytes) = bytes.items
stored_bytes (Shared bytes) = bytes.value.items
