pub mod Filling
pub mod Cataloging
