-- The texts of two kinds differ, and those of two parts.
use Rattle.std.proofs.Common.{◌≡◌, ℕ, ◌==◌, cond, sum, sym, ap, ◌∙◌, refl}
use Rattle.game_tables.specs.Texts.{kind_text, part_text}
use Rattle.game_tables.specs.declared.kind.Kind.{Kind}
use Rattle.game_tables.specs.declared.kind.Kind.TheVariants.{Source, Controller, Creep, Spawn, Extension, Storage, Container, Road, Pile, Site, Tower, Rampart, Wall, Tombstone}
use Rattle.game_tables.specs.declared.kind.Part.{Part}
use Rattle.game_tables.specs.declared.kind.Part.TheVariants.{Move, Work, Carry, Attack, RangedAttack, Tough, Heal, Claim}

-- the kind by the sum of its text's bytes
kind_of : ℕ → Kind
kind_of n = cond (n == 657) Source (cond (n == 1092) Controller (cond (n == 527) Creep (cond (n == 553) Spawn (cond (n == 989) Extension (cond (n == 757) Storage (cond (n == 963) Container (cond (n == 422) Road (cond (n == 426) Pile (cond (n == 437) Site (cond (n == 561) Tower (cond (n == 759) Rampart (cond (n == 432) Wall Tombstone))))))))))))

kind_back : (kind : Kind) → kind_of (sum (kind_text kind)) ≡ kind
unfolding kind_of
kind_back Source = refl
kind_back Controller = refl
kind_back Creep = refl
kind_back Spawn = refl
kind_back Extension = refl
kind_back Storage = refl
kind_back Container = refl
kind_back Road = refl
kind_back Pile = refl
kind_back Site = refl
kind_back Tower = refl
kind_back Rampart = refl
kind_back Wall = refl
kind_back Tombstone = refl

pub kind_text_injective : (kind other : Kind) → kind_text kind ≡ kind_text other → kind ≡ other
kind_text_injective kind other e = sym (kind_back kind) ∙ ap (λ t. kind_of (sum t)) e ∙ kind_back other

-- the part by the sum of its text's bytes
part_of : ℕ → Part
part_of n = cond (n == 439) Move (cond (n == 451) Work (cond (n == 545) Carry (cond (n == 632) Attack (cond (n == 1352) RangedAttack (cond (n == 551) Tough (cond (n == 410) Heal Claim))))))

part_back : (part : Part) → part_of (sum (part_text part)) ≡ part
unfolding part_of
part_back Move = refl
part_back Work = refl
part_back Carry = refl
part_back Attack = refl
part_back RangedAttack = refl
part_back Tough = refl
part_back Heal = refl
part_back Claim = refl

pub part_text_injective : (part other : Part) → part_text part ≡ part_text other → part ≡ other
part_text_injective part other e = sym (part_back part) ∙ ap (λ t. part_of (sum t)) e ∙ part_back other
