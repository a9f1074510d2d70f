-- The classes of bytes in RFC 8941, section 3; all are ASCII.
use Rattle.std.specs.Prelude.{ℕ, ◌&&◌, ◌||◌, leb, eqb}
use Rattle.capsule_protocol.specs.Rules.{Class}

-- one byte
abbrev pub is : ℕ → Class
is c b = eqb b c

abbrev pub is_space : Class
is_space = is 0x20

unfoldable pub is_lower : Class
is_lower b = leb 0x61 b && leb b 0x7a

-- a letter
unfoldable pub is_alpha : Class
is_alpha b = is_lower b || (leb 0x41 b && leb b 0x5a)

unfoldable pub is_digit : Class
is_digit b = leb 0x30 b && leb b 0x39

-- section 3.1.2: the first byte of a key, `a` to `z` and `*`
unfoldable pub is_key_start : Class
is_key_start b = is_lower b || is 0x2a b

-- section 3.1.2: a later byte of a key: those, digits, `_` `-` `.`
unfoldable pub is_key_byte : Class
is_key_byte b = is_key_start b || (is_digit b || (is 0x5f b || is 0x2d b || is 0x2e b))

-- section 3.3.3: in a string, 0x20 to 0x7e without `"` and `\`
unfoldable pub is_unescaped : Class
is_unescaped b = (leb 0x20 b && leb b 0x21) || (leb 0x23 b && leb b 0x5b) || (leb 0x5d b && leb b 0x7e)

-- section 3.3.3: after a `\`, `"` and `\`
unfoldable pub is_escapable : Class
is_escapable b = is 0x22 b || is 0x5c b

-- section 3.3.4: the first byte of a token, a letter or `*`
unfoldable pub is_token_start : Class
is_token_start b = is_alpha b || is 0x2a b

-- section 3.3.4: a later byte of a token: those, digits, `!` `#` `$` `%` `&` `'` `+` `-` `.` `^` `_`, the back quote, `|` `~` `:` `/`
unfoldable pub is_token_byte : Class
is_token_byte b =
    is_token_start b
    || (is_digit b
    || (is 0x21 b
    || (leb 0x23 b && leb b 0x27)
    || is 0x2b b || is 0x2d b || is 0x2e b
    || is 0x5e b || is 0x5f b || is 0x60 b
    || is 0x7c b || is 0x7e b
    || is 0x3a b || is 0x2f b))

-- section 3.3.5: letters, digits, `+` `/` `=`
unfoldable pub is_base64 : Class
is_base64 b = is_alpha b || (is_digit b || (is 0x2b b || is 0x2f b || is 0x3d b))

-- section 3.3.6: `0` or `1`
unfoldable pub is_bit : Class
is_bit b = is 0x30 b || is 0x31 b
