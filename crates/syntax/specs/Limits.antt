-- The limits of a program, of document 01 ('Program bytes').
use Rattle.std.specs.Prelude.{ℕ}

abbrev pub most_functions : ℕ
most_functions = 32

abbrev pub most_params : ℕ
most_params = 4

abbrev pub most_body : ℕ
most_body = 1024

abbrev pub most_depth : ℕ
most_depth = 64

abbrev pub most_bytes : ℕ
most_bytes = 4096
