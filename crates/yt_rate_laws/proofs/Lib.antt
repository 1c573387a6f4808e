mod Deciding
mod Near
mod Outs
mod Walks
