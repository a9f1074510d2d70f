-- Bits beyond a prefix, by the address's number. Assumes nothing.
use Rattle.walks.proofs.Words.{◌≡◌, sym, ap, ◌∙◌, ◌&&◌, ℕ, zero, suc, ◌+◌, ◌-◌, ◌*◌, ◌%◌, ◌^◌, ◌≤◌, ◌<◌, mod-eq_of_lt, mul-add-mod_self_right, arith, List, [], ◌∷◌, length, digits_div, digits_mod, pow-add, mod-pow-add, eqb, eq-eqb, ne_eqb}
use Rattle.addresses.proofs.Terms.{Bytes, num, num_from, pow_256, num_lt, split, clear_beyond, BitsBeyond}
use Rattle.addresses.proofs.Runs.{num_cons}

-- two digits are 0 exactly if their number is
two_zero : (a b c : ℕ) → 0 < c → eqb a 0 && eqb b 0 ≡ eqb (a * c + b) 0
two_zero zero b c h = let e : 0 * c + b ≡ b = omega arith in rw e
two_zero (suc a) b c h =
    let e : suc a * c ≡ a * c + c = omega arith in
    rw (ne_eqb (suc a) 0 (λ z. omega arith), ne_eqb (suc a * c + b) 0 (λ z. omega arith))

module _ (p b : ℕ) (a : List ℕ) (h : Bytes a) where
  -- the first byte has bits beyond the prefix: so many, and all those of the bytes after it
  first_byte : p < 8 → eqb (b % 2 ^ (8 - p)) 0 && eqb (num a % 2 ^ (8 * length a - (p - 8))) 0 ≡ eqb ((b * 256 ^ length a + num a) % 2 ^ (8 * suc (length a) - p)) 0
  first_byte l =
      let c : ℕ = 256 ^ length a in
      let less = num_lt a h in
      let z : p - 8 ≡ 0 = omega arith in
      let d : 8 * length a - 0 ≡ 8 * length a = omega arith in
      let k : 8 * suc (length a) - p ≡ 8 - p + 8 * length a = omega arith in
      rw (z, d, k, mod-pow-add (b * c + num a) (8 - p) (8 * length a), pow_256 (length a), digits_div b less, digits_mod b less, mod-eq_of_lt less)
      (two_zero (b % 2 ^ (8 - p)) (num a) c (omega arith))

  -- it has none
  no_bits : 8 ≤ p → eqb (b % 2 ^ (8 - p)) 0 && eqb (num a % 2 ^ (8 * length a - (p - 8))) 0 ≡ eqb ((b * 256 ^ length a + num a) % 2 ^ (8 * suc (length a) - p)) 0
  no_bits l =
      let z : 8 - p ≡ 0 = omega arith in
      let k : ℕ = 8 * length a - (p - 8) in
      let i : 8 * suc (length a) - p ≡ k = omega arith in
      let j : 8 * length a ≡ 8 * length a - k + k = omega arith in
      let e : 256 ^ length a ≡ 2 ^ (8 * length a - k) * 2 ^ k = sym (pow_256 (length a)) ∙ ap (λ (m : ℕ). 2 ^ m) j ∙ pow-add 2 (8 * length a - k) k in
      let m : b * (2 ^ (8 * length a - k) * 2 ^ k) ≡ b * 2 ^ (8 * length a - k) * 2 ^ k = omega arith in
      rw (z, eq-eqb (b % 1) 0 (omega arith), i, e, m, mul-add-mod_self_right (b * 2 ^ (8 * length a - k)) (2 ^ k) (num a))

pub bits_beyond : BitsBeyond
unfolding clear_beyond num num_from
bits_beyond p [] h = let z : 8 * 0 - p ≡ 0 = omega arith in rw z
bits_beyond p (b ∷ a) h = rw (bits_beyond (p - 8) a h.1, num_cons b a) (split 8 p (no_bits p b a h.1) (first_byte p b a h.1))
