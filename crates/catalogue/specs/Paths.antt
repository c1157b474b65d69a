-- The paths of keys. Numbers count from 1, and 0 is none.
use Rattle.std.specs.Prelude.{ℕ}
use Rattle.catalogue.specs.declared.fault.KeyField.{KeyField}
use Rattle.catalogue.specs.declared.fault.KeyField.TheVariants.{Bounds, Keys}
use Rattle.catalogue.specs.declared.fault.KeyPart.TheVariants as part
use Rattle.catalogue.specs.declared.fault.KeyPath.{KeyPath}

-- a key of the document itself
abbrev pub whole_path : KeyField → KeyPath
whole_path key = record { table = 0; part = part.Whole; item = 0; field = key; at = 0 }

-- a rate, or the table of rates
abbrev pub rates_path : KeyField → KeyPath
rates_path key = record { table = 0; part = part.Rates; item = 0; field = key; at = 0 }

-- a key of a table, or the table; of table 0, the array of tables
abbrev pub table_path : ℕ → KeyField → KeyPath
table_path t key = record { table = t; part = part.Table; item = 0; field = key; at = 0 }

-- a key of a table's column, or the column
abbrev pub column_path : ℕ → ℕ → KeyField → KeyPath
column_path t c key = record { table = t; part = part.Column; item = c; field = key; at = 0 }

-- one end of a column's histogram
abbrev pub bound_path : ℕ → ℕ → ℕ → KeyPath
bound_path t c k = record { table = t; part = part.Column; item = c; field = Bounds; at = k }

-- a key of a table's index, or the index
abbrev pub index_path : ℕ → ℕ → KeyField → KeyPath
index_path t i key = record { table = t; part = part.Index; item = i; field = key; at = 0 }

-- one key column of an index
abbrev pub key_column_path : ℕ → ℕ → ℕ → KeyPath
key_column_path t i k = record { table = t; part = part.Index; item = i; field = Keys; at = k }
