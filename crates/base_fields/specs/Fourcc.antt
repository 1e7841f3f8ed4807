-- Four type bytes as one big-endian number, and the grouping types that document 01 names.
use Rattle.std.specs.Prelude.{ℕ}

abbrev pub roll : ℕ
roll = 0x726f6c6c

abbrev pub prol : ℕ
prol = 0x70726f6c

-- "rap "
abbrev pub rap : ℕ
rap = 0x72617020

abbrev pub tele : ℕ
tele = 0x74656c65

-- "sap "
abbrev pub sap : ℕ
sap = 0x73617020

abbrev pub rash : ℕ
rash = 0x72617368

abbrev pub alst : ℕ
alst = 0x616c7374
