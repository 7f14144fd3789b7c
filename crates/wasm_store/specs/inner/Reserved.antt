-- What a memory's vector keeps: it has whole pages, no more than its limit, and room for as many as the
-- limit.
use Rattle.std.specs.Prelude.{◌≡◌, ℕ, ◌*◌, ◌%◌, ◌≤◌}
use Rattle.wasm_store.specs.Memory.{page_size, most_pages}

pub record IsReserved (size limit room : ℕ) : Type 0 where
  pub whole : size % page_size ≡ 0
  pub within : size ≤ limit * page_size
  pub small : limit ≤ most_pages
  pub roomy : limit * page_size ≤ room
