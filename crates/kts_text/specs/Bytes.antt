-- What a byte is outside comments.
use Rattle.std.specs.Prelude.{ℕ, ◌==◌, ◌||◌, ◌&&◌, nat_le, if◌then◌else◌, Bool}
use Rattle.kts_text.specs.declared.class.Class.{Class}
use Rattle.kts_text.specs.declared.class.Class.TheVariants.{White, Semicolon, Open, Close, Letter, Bad}

abbrev pub tab : ℕ
tab = 9

abbrev pub line_feed : ℕ
line_feed = 10

abbrev pub carriage_return : ℕ
carriage_return = 13

abbrev pub space : ℕ
space = 32

-- the first of the bytes that are printed
abbrev pub exclamation_mark : ℕ
exclamation_mark = 33

abbrev pub open_parenthesis : ℕ
open_parenthesis = 40

abbrev pub close_parenthesis : ℕ
close_parenthesis = 41

abbrev pub semicolon : ℕ
semicolon = 59

-- the last of the bytes that are printed
abbrev pub tilde : ℕ
tilde = 126

-- white space
abbrev pub is_white : ℕ → Bool
is_white byte = byte == space || byte == tab || byte == line_feed || byte == carriage_return

-- the class of a byte; a letter is any other byte from `!` to `~`
unfoldable pub class : ℕ → Class
class byte =
    if is_white byte then White
    else (if byte == semicolon then Semicolon
    else (if byte == open_parenthesis then Open
    else (if byte == close_parenthesis then Close
    else (if nat_le exclamation_mark byte && nat_le byte tilde then Letter
    else Bad))))
