-- The ASCII bytes that have a meaning in addresses.
use Rattle.std.specs.Prelude.{ℕ}

-- `!`
abbrev pub exclamation : ℕ
exclamation = 33

-- `#`
abbrev pub hash : ℕ
hash = 35

-- `$`
abbrev pub dollar : ℕ
dollar = 36

-- `%`
abbrev pub percent : ℕ
percent = 37

-- `*`
abbrev pub star : ℕ
star = 42

-- `,`
abbrev pub comma : ℕ
comma = 44

-- `-`
abbrev pub dash : ℕ
dash = 45

-- `.`
abbrev pub dot : ℕ
dot = 46

-- `/`
abbrev pub slash : ℕ
slash = 47

-- `:`
abbrev pub colon : ℕ
colon = 58

-- `;`
abbrev pub semicolon : ℕ
semicolon = 59

-- `=`
abbrev pub equals : ℕ
equals = 61

-- `?`
abbrev pub question : ℕ
question = 63

-- `[`
abbrev pub open_bracket : ℕ
open_bracket = 91

-- `\`
abbrev pub backslash : ℕ
backslash = 92

-- `]`
abbrev pub close_bracket : ℕ
close_bracket = 93

-- `_`
abbrev pub underscore : ℕ
underscore = 95

-- `~`
abbrev pub tilde : ℕ
tilde = 126

-- the byte 0x7F, the last control byte of ASCII
abbrev pub delete : ℕ
delete = 127
