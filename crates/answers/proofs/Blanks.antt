-- What `default` makes is blank. Assumes nothing.
use Rattle.std.specs.Prelude.{ℕ, ◌≡◌, ◌<◌, List, replicate}
use Rattle.std.specs.Array.{AllOfLen}
use Rattle.std.proofs.lemmas.List.{ext_get_or, length-replicate, get_or-replicate}
use Rattle.walks.proofs.Words.{sym, ◌∙◌, arith}
use Rattle.answers.specs.declared.address_capsules.AddressEntry.{AddressEntry}
use Rattle.answers.specs.declared.address_capsules.RouteEntry.{RouteEntry}
use Rattle.answers.specs.AddressCapsules.{blank_address, blank_route}

zeros : (xs : List ℕ) (n : ℕ) → AllOfLen (λ x. x ≡ 0) xs n → xs ≡ replicate n 0
zeros xs n h = ext_get_or 0 xs (replicate n 0) (h.long ∙ sym (length-replicate n 0)) (λ i l. let m : i < n = omega (arith, l, h.long) in h.at i 0 m ∙ sym (get_or-replicate n i 0 0 m))

made_address : (i v p : ℕ) (a r : List ℕ) → (i ≡ 0) × (v ≡ 0) × (p ≡ 0) × (a ≡ replicate 16 0) × (r ≡ replicate 6 0) → record { id = i; version = v; prefix = p; address = a; reserved = r } ≡ blank_address
unfolding blank_address
made_address i v p a r e = rw (e.0, e.1, e.2, e.3, e.4)

pub address_blank : (a : AddressEntry) → (a.id ≡ 0) × ((a.version ≡ 0) × ((a.prefix ≡ 0) × (AllOfLen (λ x. x ≡ 0) a.address 16 × AllOfLen (λ x. x ≡ 0) a.reserved 6))) → a ≡ blank_address
address_blank a e = made_address a.id a.version a.prefix a.address a.reserved (e.0, e.1.0, e.1.1.0, zeros _ 16 e.1.1.1.0, zeros _ 6 e.1.1.1.1)

made_route : (v p : ℕ) (s e : List ℕ) → (v ≡ 0) × (p ≡ 0) × (s ≡ replicate 16 0) × (e ≡ replicate 16 0) → record { version = v; protocol = p; start = s; end = e } ≡ blank_route
unfolding blank_route
made_route v p s e h = rw (h.0, h.1, h.2, h.3)

pub route_blank : (r : RouteEntry) → (r.version ≡ 0) × ((r.protocol ≡ 0) × (AllOfLen (λ x. x ≡ 0) r.start 16 × AllOfLen (λ x. x ≡ 0) r.end 16)) → r ≡ blank_route
route_blank r e = made_route r.version r.protocol r.start r.end (e.0, e.1.0, zeros _ 16 e.1.1.0, zeros _ 16 e.1.1.1)
