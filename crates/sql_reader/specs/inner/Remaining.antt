-- The terminals that are left to read.
use Rattle.std.specs.Prelude.{List}
use Rattle.sql_reader.specs.declared.terminal.Terminal.{Terminal}
use Rattle.sql_reader.specs.declared.cursor.Cursor.{Cursor}
use Rattle.sql_reader.specs.inner.Ahead.{terminals_behind, from_next}

unfoldable pub remaining : Cursor → List Terminal
remaining cursor = from_next cursor.next (terminals_behind cursor.tokens.text.now cursor.tokens.at cursor.mark)
