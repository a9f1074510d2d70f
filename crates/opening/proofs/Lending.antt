-- Refusals by the lengths of the lent buffers, in their order. Assumes nothing.
use Rattle.std.specs.Prelude.{Ok, Err}
use Rattle.walks.proofs.Words.{◌≡◌, refl, sym, ◌∙◌, ℕ, ◌+◌, ◌≤◌, ◌<◌, Bool, true, false, le-leb, lt-leb}
use Rattle.opening.proofs.Terms.{no_true, gathering_too_short, addresses_too_short, output_too_short, Endpoint, Intermediary, Opening, longest_address_value, opted_by, opted, output_verdict, addresses_verdict, lent_verdict}

-- an intermediary never opts in
pub opted-endpoint : (op : Opening) → op.role ≡ Intermediary → opted op ≡ false
unfolding opted opted_by
opted-endpoint op e = rw e

endpoint-opted : (op : Opening) → op.role ≡ Endpoint → opted op ≡ op.addresses
unfolding opted opted_by
endpoint-opted op e = rw e

pub endpoint_on : (op : Opening) → op.role ≡ Endpoint → op.addresses ≡ true → opted op ≡ true
endpoint_on op e d = endpoint-opted op e ∙ d

module _ (op : Opening) (piece gathering addresses output : ℕ) where
  pub gathering-short : gathering < op.limit → Err gathering_too_short ≡ lent_verdict op piece gathering addresses output
  unfolding lent_verdict
  gathering-short h = rw (lt-leb op.limit gathering h)

  module _ (h : op.limit ≤ gathering) where
    pub addresses-short : opted op ≡ true → addresses < longest_address_value → Err addresses_too_short ≡ lent_verdict op piece gathering addresses output
    unfolding lent_verdict addresses_verdict
    addresses-short o l = rw (le-leb op.limit gathering h, o, lt-leb longest_address_value addresses l)

    pub endpoint-lent : op.role ≡ Endpoint → (opted op ≡ true → longest_address_value ≤ addresses) → (Ok tt) ≡ lent_verdict op piece gathering addresses output
    unfolding lent_verdict output_verdict addresses_verdict
    endpoint-lent e l = go (opted op) refl
      where
        go : (o : Bool) → opted op ≡ o → (Ok tt) ≡ lent_verdict op piece gathering addresses output
        go true d = rw (le-leb op.limit gathering h, d, le-leb longest_address_value addresses (l d), e)
        go false d = rw (le-leb op.limit gathering h, d, e)

    pub endpoint_off : op.role ≡ Endpoint → op.addresses ≡ false → (Ok tt) ≡ lent_verdict op piece gathering addresses output
    endpoint_off e d = endpoint-lent e (λ o. no_true (sym (endpoint-opted op e ∙ d) ∙ o))

    pub output-short : op.role ≡ Intermediary → output < piece + 8 → Err output_too_short ≡ lent_verdict op piece gathering addresses output
    unfolding lent_verdict output_verdict addresses_verdict
    output-short e l = rw (le-leb op.limit gathering h, opted-endpoint op e, e, lt-leb (piece + 8) output l)

    pub output-lent : op.role ≡ Intermediary → piece + 8 ≤ output → (Ok tt) ≡ lent_verdict op piece gathering addresses output
    unfolding lent_verdict output_verdict addresses_verdict
    output-lent e l = rw (le-leb op.limit gathering h, opted-endpoint op e, e, le-leb (piece + 8) output l)
