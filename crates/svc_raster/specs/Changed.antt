-- What a command on the stencil test changes.
use Rattle.std.specs.Prelude.{ℕ, List, ◌==◌, if◌then◌else◌}
use Rattle.gl_plain.specs.declared.numbers.TheConstants.{STENCIL_FUNC_SEPARATE, STENCIL_MASK_SEPARATE, STENCIL_OP_SEPARATE}
use Rattle.gl_plain.specs.declared.raster.StencilSide.{StencilSide}
use Rattle.gl_plain.specs.subjects.Raster.{with_function, with_operations, with_write_mask}

-- a side as it is
abbrev pub unchanged : StencilSide → StencilSide
unchanged side = side

-- what a command with these words makes of a side that it names
abbrev pub side_change : ℕ → List ℕ → StencilSide → StencilSide
side_change number words =
    if number == STENCIL_FUNC_SEPARATE then with_function words
    else if number == STENCIL_MASK_SEPARATE then with_write_mask words
    else if number == STENCIL_OP_SEPARATE then with_operations words
    else unchanged
