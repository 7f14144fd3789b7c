-- The memory of WebAssembly Core 1.0, chapter 4.2.8, and what the instructions of chapter 4.4.4 read and
-- write there.
use Rattle.std.specs.Prelude.{ℕ, ◌+◌, ◌*◌, ◌/◌, min, List, ◌++◌, length, take, drop, replicate}

-- the bytes, and the most pages that there may be
pub record Memory : Type 0 where
  pub bytes : List ℕ
  pub limit : ℕ

-- the bytes of a page, and how many pages a memory may have at most
abbrev pub page_size : ℕ
page_size = 65536

abbrev pub most_pages : ℕ
most_pages = 256

abbrev pub page_count : Memory → ℕ
page_count m = length m.bytes / page_size

-- so many pages of zeros
abbrev pub zero_pages : ℕ → List ℕ
zero_pages n = replicate (n * page_size) 0

-- a new memory of a type whose limits are `least` and `most` pages
abbrev pub fresh : ℕ → ℕ → Memory
fresh least most = record { bytes = zero_pages least; limit = min most most_pages }

-- the memory with so many pages more
abbrev pub grown : Memory → ℕ → Memory
grown m by = record { bytes = m.bytes ++ zero_pages by; limit = m.limit }

-- the n bytes from address `at`
abbrev pub span : Memory → ℕ → ℕ → List ℕ
span m at n = take n (drop at m.bytes)

-- the memory with `bytes` from address `at`, and the others as they were
abbrev pub written : Memory → ℕ → List ℕ → Memory
written m at bytes =
    record { bytes = take at m.bytes ++ (bytes ++ drop (at + length bytes) m.bytes); limit = m.limit }
